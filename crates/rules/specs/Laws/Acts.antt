-- An act at an opening, beside the same act at an opening that is the same but for its record's place, where there is another room: the same
-- refusal, or uses that are the same but for the place. Assumes nothing.
use Rattle.std.specs.Prelude.{ℕ, ◌≡◌, Bool, true, false, not, ◌&&◌, List, T, eqb}
use Rattle.std.proofs.Math.Path.{refl}
use Rattle.std.proofs.Math.Option.{Option}
use Rattle.combine.specs.Verdict.{Verdict}
use Rattle.combine.specs.Laws.SameBut.{SameBut, keep, skip}
use Rattle.names.specs.Names.{name_of}
use Rattle.rules.specs.Calls.{Act, rename, reset, new_pointer, delete_pointer, write, next, prev, write_signed, next_signed, prev_signed, ask_species, ask_claim, ask_permit, ask_symbol, ask_begin, ask_end, ask_value}
use Rattle.rules.specs.Headings.{Handle, value}
use Rattle.rules.specs.Effects.{Use, does}
use Rattle.rules.specs.Access.{write_rule, next_rule, prev_rule, new_pointer_rule, delete_pointer_rule, value_rule, rename_rule, acting}

-- the handle, with its record at another place
abbrev pub placed : Handle → Option ℕ → Handle
placed h q = record { place = q; permit = h.permit; name = h.name; species = h.species; pointers = h.pointers }

abbrev pub move_to : Option ℕ → Use → Use
move_to q u = does u.told (placed u.handle q) u.deed

-- u leaves the place of h, and v is u at the place q
abbrev pub SameUse : Handle → Option ℕ → Use → Use → Type 0
SameUse h q u v = (u.handle.place ≡ h.place) × (v ≡ move_to q u)

-- more room, no more refusals for want of it
no-less-room : (a r s : Bool) → (T r → T s) → T (not (a && not r)) → T (not (a && not s))
no-less-room false r s e t = tt
no-less-room true true true e t = tt
no-less-room true true false e t = absurd (e tt)
no-less-room true false s e t = absurd t

-- 9 is excepted here; and there, or there is as much room
module _ (P Q : ℕ → Type 0) (h : Handle) (q : Option ℕ) (takes : ℕ → Bool) (room room' : Bool) (here : P 9 → ⊥) (there : Q 9 → T room → T room') where
  abbrev Same : Verdict Use → Verdict Use → Type 0
  Same = SameBut P Q (SameUse h q)

  write_same : (p : ℕ) (signed wide : Bool) (n : ℕ) → Same (write_rule p signed wide n takes room h) (write_rule p signed wide n takes room' (placed h q))
  unfolding write_rule
  write_same p signed wide n =
      keep P Q _ 19 _ _ _ _ refl (λ t. keep P Q _ 4 _ _ _ _ refl (λ t. keep P Q _ 5 _ _ _ _ refl (λ t. keep P Q _ 6 _ _ _ _ refl (λ t. keep P Q _ 7 _ _ _ _ refl (λ t.
      keep P Q _ 23 _ _ _ _ refl (λ t. keep P Q _ 10 _ _ _ _ refl (λ t. keep P Q _ 8 _ _ _ _ refl (λ t.
      skip P Q _ 9 _ _ _ _ (λ k. absurd (here k)) (λ t k. no-less-room (not (eqb p 0) && takes (value h p)) room room' (there k) t) (λ t u. (refl, refl))))))))))

  next-same : (signed : Bool) (p : ℕ) → Same (next_rule signed p h) (next_rule signed p (placed h q))
  unfolding next_rule
  next-same signed p =
      keep P Q _ 19 _ _ _ _ refl (λ t. keep P Q _ 4 _ _ _ _ refl (λ t. keep P Q _ 5 _ _ _ _ refl (λ t. keep P Q _ 6 _ _ _ _ refl (λ t. keep P Q _ 7 _ _ _ _ refl (λ t. (refl, refl))))))

  prev-same : (signed : Bool) (p : ℕ) → Same (prev_rule signed p h) (prev_rule signed p (placed h q))
  unfolding prev_rule
  prev-same signed p =
      keep P Q _ 19 _ _ _ _ refl (λ t. keep P Q _ 4 _ _ _ _ refl (λ t. keep P Q _ 5 _ _ _ _ refl (λ t. keep P Q _ 6 _ _ _ _ refl (λ t. keep P Q _ 7 _ _ _ _ refl (λ t. (refl, refl))))))

  new-pointer-same : (p : ℕ) → Same (new_pointer_rule p h) (new_pointer_rule p (placed h q))
  unfolding new_pointer_rule
  new-pointer-same p = keep P Q _ 4 _ _ _ _ refl (λ t. keep P Q _ 21 _ _ _ _ refl (λ t. (refl, refl)))

  delete-pointer-same : (p : ℕ) → Same (delete_pointer_rule p h) (delete_pointer_rule p (placed h q))
  unfolding delete_pointer_rule
  delete-pointer-same p = keep P Q _ 4 _ _ _ _ refl (λ t. (refl, refl))

  value_same : (p : ℕ) → Same (value_rule p h) (value_rule p (placed h q))
  unfolding value_rule
  value_same p = keep P Q _ 4 _ _ _ _ refl (λ t. (refl, refl))

  rename-same : (n : List ℕ) → Same (rename_rule n h) (rename_rule n (placed h q))
  unfolding rename_rule
  rename-same n = keep P Q _ 5 _ _ _ _ refl (λ t. (refl, refl))

  pub acting-same : (act : Act) → Same (acting act takes room h) (acting act takes room' (placed h q))
  acting-same (rename bytes) = rename-same (name_of bytes)
  acting-same reset = (refl, refl)
  acting-same (new_pointer p) = new-pointer-same p
  acting-same (delete_pointer p) = delete-pointer-same p
  acting-same (write p n) = write_same p false _ n
  acting-same (next p) = next-same false p
  acting-same (prev p) = prev-same false p
  acting-same (write_signed p z) = write_same p true _ _
  acting-same (next_signed p) = next-same true p
  acting-same (prev_signed p) = prev-same true p
  acting-same ask_species = (refl, refl)
  acting-same ask_claim = (refl, refl)
  acting-same ask_permit = (refl, refl)
  acting-same (ask_symbol k) = (refl, refl)
  acting-same ask_begin = (refl, refl)
  acting-same ask_end = (refl, refl)
  acting-same (ask_value p) = value_same p
