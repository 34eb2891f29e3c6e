-- From answers to numbers and back, whatever the answers: A is the kind of answer, N of number, and Packs says of an answer that a number can be it. Assumes nothing.
use Rattle.std.specs.Prelude.{◌≡◌, ◌↔◌}
use Rattle.std.proofs.Common.{sym, ap, subst, ◌∙◌}

module _ {A N : Type 0} (packed : A → N) (unpacked : N → A) (Packs : A → Type 0) (back : (a : A) → Packs a → unpacked (packed a) ≡ a) where
  -- a number is an answer exactly if it is that answer's number
  pub exactly : ((m : N) → packed (unpacked m) ≡ m) → ((m : N) → Packs (unpacked m)) → (m : N) (a : A) → (unpacked m ≡ a) ↔ ((m ≡ packed a) × Packs a)
  exactly there packs m a = (λ e. (sym (there m) ∙ ap packed e, subst Packs e (packs m)), λ h. ap unpacked h.0 ∙ back a h.1)

  -- two answers of the code that have one number are one answer
  pub one_of : {C : Type 0} (said : C → A) → ((a b : C) → said a ≡ said b → a ≡ b) → (a b : C) → Packs (said a) → Packs (said b) → packed (said a) ≡ packed (said b) → a ≡ b
  one_of said one a b p q e = one a b (sym (back (said a) p) ∙ ap unpacked e ∙ back (said b) q)
