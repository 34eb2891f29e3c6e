-- What holds of a use that is not refused: the facts behind the refusals that were not given. Assumes nothing.
use Rattle.std.specs.Prelude.{ℕ, ◌+◌, ◌-◌, ◌^◌, ◌≤◌, ◌<◌, ◌≡◌, refl, ◌≢◌, Bool, true, false, ◌&&◌, cond, List, eqb, drop}
use native.Mathlib.Omega.{arith}
use Rattle.std.proofs.Math.Bool.{not}
use Rattle.std.proofs.Math.Dec.{T, leb, ltb, nleb→lt, nltb→le}
use Rattle.std.proofs.Common.{eqb→eq}
use Rattle.combine.specs.Lists.{first_where}
use Rattle.combine.specs.Verdict.{Verdict}
use Rattle.names.specs.Names.{name_of}
use Rattle.placing.specs.Sizes.{most_held, greatest_end, signed_species, width_of}
use Rattle.placing.specs.Placing.{held_of}
use Rattle.numbers.specs.declared.Number.{Number}
use Rattle.numbers.specs.declared.Number.TheVariants.{Plain, Signed}
use Rattle.numbers.specs.Numbers.{is_foreign, is_signed, too_wide, bits_of}
use Rattle.numbers.specs.Laws.Numbers.{bits_small}
use Rattle.rules.specs.Calls.{Act, rename, reset, new_pointer, delete_pointer, write, next, prev, write_signed, next_signed, prev_signed, ask_species, ask_claim, ask_permit, ask_symbol, ask_begin, ask_end, ask_value}
use Rattle.rules.specs.Headings.{Handle, value, moved, named}
use Rattle.rules.specs.Effects.{stays, first_leaves, last_leaves, stores, Delivered, plain, element, Use, does}
use Rattle.rules.specs.Access.{write_rule, next_rule, prev_rule, new_pointer_rule, delete_pointer_rule, value_rule, rename_rule, acting}
use Rattle.combine.specs.Laws.Below.{not-both}
use Rattle.combine.specs.Laws.Tests.{false_of, not-not, nor-second, at-eq}
use Rattle.proof_requests_sound.specs.Verdicts.{Has, has}

-- an element that is told lies in the file
abbrev pub Inside : Handle → Delivered → Type 0
Inside h (plain n) = Unit {0}
Inside h (element v) = (value h 0 ≤ v) × (v < value h 1)

-- `takes v` says that to store at position v takes a segment
pub data Usable (h : Handle) (takes : ℕ → Bool) (room : Bool) : Use → Type 0 where
  asks : (n : ℕ) → Usable h takes room (does (plain n) h stays)
  renames : (bytes : List ℕ) → T h.permit → Usable h takes room (does (plain 0) (named h (name_of bytes)) stays)
  moves : (t : Delivered) (p v q : ℕ) → p ≢ 0 → p ≢ 1 → v ≤ value h q → (p ≡ 2 → 1 ≤ value h 0 → 1 ≤ v) → Inside h t
      → Usable h takes room (does t (moved h p v) stays)
  first : (t : Delivered) → T h.permit → value h 0 < value h 1 → Inside h t → Usable h takes room (does t (moved h 0 (value h 0 + 1)) first_leaves)
  last : (t : Delivered) → T h.permit → value h 0 < value h 1 → Inside h t → Usable h takes room (does t (moved h 1 (value h 1 - 1)) last_leaves)
  replaces : (p n : ℕ) → T h.permit → p ≢ 0 → p ≢ 1 → value h 0 ≤ value h p → value h p < value h 1 → (T (takes (value h p)) → T room)
      → n < 2 ^ width_of h.species → Usable h takes room (does (plain 0) (moved h p (value h p + 1)) (stores (value h p) n))
  appends : (n : ℕ) → T h.permit → value h 0 ≤ value h 1 → value h 1 < greatest_end → held_of h.species (value h 0) (value h 1 + 1) ≤ most_held
      → (T (takes (value h 1)) → T room) → n < 2 ^ width_of h.species → Usable h takes room (does (plain 0) (moved h 1 (value h 1 + 1)) (stores (value h 1) n))

takes-room : (takes room : Bool) → T (not (takes && not room)) → T takes → T room
takes-room true true n t = tt
takes-room true false n t = n
takes-room false room n t = absurd t

signed-there : (signed : Bool) (s : ℕ) → T (not (is_foreign signed s)) → signed ≡ true → s ≡ signed_species
signed-there true s t e = eqb→eq s signed_species (not-not (eqb s signed_species) t)
signed-there false s t e = absurd (not-both e refl)

-- the bits of a number that is neither foreign nor too wide are bits of the species: "No silent cutting"
number_small : (s : ℕ) (n : Number) → T (not (is_foreign (is_signed n) s)) → T (not (too_wide s n)) → bits_of n < 2 ^ width_of s
number_small s n h19 h23 = bits_small s n (signed-there (is_signed n) s h19) (false_of (too_wide s n) h23)

module _ (takes : ℕ → Bool) (room : Bool) (h : Handle) where
  abbrev Fine : Verdict Use → Type 0
  Fine = Has (Usable h takes room)

  usable-write : (p : ℕ) (signed wide : Bool) (n : ℕ) → (T (not (is_foreign signed h.species)) → T (not wide) → n < 2 ^ width_of h.species)
      → Fine (write_rule p signed wide n takes room h)
  unfolding write_rule
  usable-write p signed wide n small =
      has _ _ _ _ (λ h19. has _ _ _ _ (λ h4. has _ _ _ _ (λ h5. has _ _ _ _ (λ h6. has _ _ _ _ (λ h7. has _ _ _ _ (λ h23. has _ _ _ _ (λ h10. has _ _ _ _ (λ h8. has _ _ _ _ (λ h9.
      go (small h19 h23) h5 h6 h7 h10 h8 h9)))))))))
    where
      go : n < 2 ^ width_of h.species → T (not (not h.permit)) → T (not (ltb (value h p) (value h 0))) → T (not (not (eqb p 1) && leb (value h 1) (value h p)))
          → T (not (eqb p 1 && leb greatest_end (value h p))) → T (not (eqb p 1 && ltb most_held (held_of h.species (value h 0) (value h p + 1))))
          → T (not (not (eqb p 0) && takes (value h p) && not room))
          → Usable h takes room (does (plain 0) (moved h p (value h p + 1)) (cond (eqb p 0) first_leaves (stores (value h p) n)))
      go b h5 h6 = at-eq p 0
          (λ p b. T (not (not (eqb p 1) && leb (value h 1) (value h p))) → T (not (eqb p 1 && leb greatest_end (value h p)))
          → T (not (eqb p 1 && ltb most_held (held_of h.species (value h 0) (value h p + 1)))) → T (not (not b && takes (value h p) && not room))
          → Usable h takes room (does (plain 0) (moved h p (value h p + 1)) (cond b first_leaves (stores (value h p) n))))
          (λ h7 h10 h8 h9. first (plain 0) (not-not h.permit h5) (nleb→lt (value h 1) (value h 0) h7) tt)
          (λ p0. at-eq p 1
          (λ q b. q ≡ p → T (not (not b && leb (value h 1) (value h q))) → T (not (b && leb greatest_end (value h q)))
          → T (not (b && ltb most_held (held_of h.species (value h 0) (value h q + 1)))) → T (not (takes (value h q) && not room))
          → Usable h takes room (does (plain 0) (moved h q (value h q + 1)) (stores (value h q) n)))
          (λ e h7 h10 h8 h9. appends n (not-not h.permit h5) (rw (← e) at (nltb→le (value h p) (value h 0) h6)) (nleb→lt greatest_end (value h 1) h10)
          (nltb→le most_held (held_of h.species (value h 0) (value h 1 + 1)) h8) (takes-room (takes (value h 1)) room h9) b)
          (λ p1 e h7 h10 h8 h9. replaces p n (not-not h.permit h5) p0 p1 (nltb→le (value h p) (value h 0) h6) (nleb→lt (value h 1) (value h p) h7)
          (takes-room (takes (value h p)) room h9) b) refl)

  usable-next : (signed : Bool) (p : ℕ) → Fine (next_rule signed p h)
  unfolding next_rule
  usable-next signed p =
      has _ _ _ _ (λ h19. has _ _ _ _ (λ h4. has _ _ _ _ (λ h5. has _ _ _ _ (λ h6. has _ _ _ _ (λ h7.
      go h5 (nltb→le (value h p) (value h 0) h6) (nleb→lt (value h 1) (value h p) h7))))))
    where
      out : p ≡ 1 → value h p < value h 1 → ⊥
      out e r = let z : value h 1 < value h 1 = rw e at r in omega arith

      go : T (not (eqb p 0 && not h.permit)) → value h 0 ≤ value h p → value h p < value h 1
          → Usable h takes room (does (element (value h p)) (moved h p (value h p + 1)) (cond (eqb p 0) first_leaves stays))
      go = at-eq p 0
          (λ p b. T (not (b && not h.permit)) → value h 0 ≤ value h p → value h p < value h 1
          → Usable h takes room (does (element (value h p)) (moved h p (value h p + 1)) (cond b first_leaves stays)))
          (λ h5 l r. first (element (value h 0)) (not-not h.permit h5) r (l, r))
          (λ p0 h5 l r. moves (element (value h p)) p (value h p + 1) 1 p0 (λ e. out e r) (omega arith) (λ e w. omega arith) (l, r))

  usable-prev : (signed : Bool) (p : ℕ) → Fine (prev_rule signed p h)
  unfolding prev_rule
  usable-prev signed p =
      has _ _ _ _ (λ h19. has _ _ _ _ (λ h4. has _ _ _ _ (λ h5. has _ _ _ _ (λ h6. has _ _ _ _ (λ h7.
      go h5 (nleb→lt (value h p) (value h 0) h6) (nltb→le (value h 1) (value h p) h7))))))
    where
      out : p ≡ 0 → value h 0 < value h p → ⊥
      out e l = let z : value h 0 < value h 0 = rw e at l in omega arith

      go : T (not (eqb p 1 && not h.permit)) → value h 0 < value h p → value h p ≤ value h 1
          → Usable h takes room (does (element (value h p - 1)) (moved h p (value h p - 1)) (cond (eqb p 1) last_leaves stays))
      go = at-eq p 1
          (λ p b. T (not (b && not h.permit)) → value h 0 < value h p → value h p ≤ value h 1
          → Usable h takes room (does (element (value h p - 1)) (moved h p (value h p - 1)) (cond b last_leaves stays)))
          (λ h5 l r. last (element (value h 1 - 1)) (not-not h.permit h5) l (omega arith, omega arith))
          (λ p1 h5 l r. moves (element (value h p - 1)) p (value h p - 1) p (λ e. out e l) p1 (omega arith) (λ e w. omega arith) (omega arith, omega arith))

  usable-new-pointer : (p : ℕ) → Fine (new_pointer_rule p h)
  unfolding new_pointer_rule
  usable-new-pointer p = has _ _ _ _ (λ h4. has _ _ _ _ (λ h21.
      let q = 3 + first_where (eqb 0) (drop 3 h.pointers) in
      moves (plain q) q (value h p) p (λ e. omega arith) (λ e. omega arith) (omega arith) (λ e. absurd (omega arith)) tt))

  usable-delete-pointer : (p : ℕ) → Fine (delete_pointer_rule p h)
  unfolding delete_pointer_rule
  usable-delete-pointer p = has _ _ _ _ (λ h4.
      let l : 3 ≤ p = nltb→le p 3 (nor-second (eqb (value h p) 0) (ltb p 3) h4) in
      moves (plain 0) p 0 0 (λ e. omega arith) (λ e. omega arith) (omega arith) (λ e. absurd (omega arith)) tt)

  usable-value : (p : ℕ) → Fine (value_rule p h)
  unfolding value_rule
  usable-value p = has _ _ _ _ (λ h4. asks (value h p))

  usable-rename : (bytes : List ℕ) → Fine (rename_rule (name_of bytes) h)
  unfolding rename_rule
  usable-rename bytes = has _ _ _ _ (λ h5. renames bytes (not-not h.permit h5))

  pub usable-acting : (a : Act) → Has (Usable h takes room) (acting a takes room h)
  usable-acting (rename bytes) = usable-rename bytes
  usable-acting reset = moves (plain 0) 2 (value h 0) 0 (λ e. omega arith) (λ e. omega arith) (omega arith) (λ e w. w) tt
  usable-acting (new_pointer p) = usable-new-pointer p
  usable-acting (delete_pointer p) = usable-delete-pointer p
  usable-acting (write p n) = usable-write p false _ n (number_small h.species (Plain n))
  usable-acting (next p) = usable-next false p
  usable-acting (prev p) = usable-prev false p
  usable-acting (write_signed p z) = usable-write p true _ _ (number_small h.species (Signed z))
  usable-acting (next_signed p) = usable-next true p
  usable-acting (prev_signed p) = usable-prev true p
  usable-acting ask_species = asks _
  usable-acting ask_claim = asks _
  usable-acting ask_permit = asks _
  usable-acting (ask_symbol k) = asks _
  usable-acting ask_begin = asks _
  usable-acting ask_end = asks _
  usable-acting (ask_value p) = usable-value p
