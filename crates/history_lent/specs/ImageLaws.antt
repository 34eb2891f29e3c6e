-- What the code of save and load uses of their meaning, where cells are lent from 0 on. Assumes nothing.
use Rattle.std.specs.Prelude.{ℕ, ◌+◌, ◌-◌, ◌≤◌, ◌<◌, ◌≡◌, Bool, true, false, List, ◌++◌, length, take, Option, Some, None}
use Rattle.std.proofs.Math.Path.{sym, ap}
use Rattle.std.proofs.Common.{◌∙◌, arith}
use Rattle.std.proofs.Math.Nat.{sub-zero}
use borrow.Author.Tests.{lt-ltb, le-ltb, eq-eqb, ne_eqb}
use Rattle.std.proofs.Math.ListN.{drop}
use Rattle.answers.specs.Said.{Answer, said}
use Rattle.combine.specs.Outcome.{Outcome, outcome_of}
use Rattle.cells.specs.Outcomes.{Lent, lent, Saved, saved, save_out, load_out}
use Rattle.history_calls.specs.declared.Reply.{Reply}
use Rattle.history_calls.specs.declared.Reply.TheVariants.{Bad}
use Rattle.history_calls.specs.Told.{reply_of}
use Rattle.history_buffers.specs.Numbers.{on_one}
use Rattle.history_buffers.specs.Buffers.{lent_of}
use Rattle.history_lent.specs.Rooms.{image_buffer, last_image, others_length, first_image, image_start, Lending, lending}
use Rattle.history_lent.specs.Images.{saved_to, loaded_from, image_call, image_line}

module _ (l s t : List ℕ) (ns nt : ℕ) (es : ns ≡ lent_of l 0 (length s)) (et : nt ≡ lent_of l 1 (length t)) (i : List ℕ) (k n : ℕ) (en : n ≡ lent_of l (first_image + k) image_buffer)
    (lk : k ≤ last_image) (long : length i ≡ others_length) where
  of-store : ns - 0 ≡ lent_of l 0 (length s)
  of-store = sub-zero ns ∙ es

  of-tables : nt - 0 ≡ lent_of l 1 (length t)
  of-tables = sub-zero nt ∙ et

  of_image : image_start k + n - image_start k ≡ lent_of l (first_image + k) image_buffer
  of_image = let e : image_start k + n - image_start k ≡ n = omega arith in e ∙ en

  pub saved-to : (b : Bool) (a : Answer) (r : Reply) (img' : List ℕ) → b ≡ true → r ≡ reply_of (said a)
      → outcome_of (said a) (saved (take (ns - 0) s) (take (nt - 0) t) img') ≡ save_out (take (ns - 0) s) (take (nt - 0) t) (take (image_start k + n - image_start k) (drop (image_start k) i))
      → lending r s t (take (image_start k) i ++ (img' ++ drop (image_start k + n - image_start k) (drop (image_start k) i))) ≡ image_call l k b s t i
  unfolding image_call
  saved-to b a r img' q p e =
      ap (λ x. lending x s t (take (image_start k) i ++ (img' ++ drop (image_start k + n - image_start k) (drop (image_start k) i)))) p
      ∙ ap (λ (o : Outcome Saved). lending (reply_of o.answer) s t (take (image_start k) i ++ (o.after.image ++ drop (image_start k + n - image_start k) (drop (image_start k) i)))) e
      ∙ (λ j. saved_to (of-store j) (of-tables j) (of_image j) k s t i)
      ∙ sym (simp (le-ltb last_image k lk, eq-eqb (length i) others_length long, q))

  pub loaded-from : (b : Bool) (a : Answer) (r : Reply) (t' : List ℕ) → b ≡ false → r ≡ reply_of (said a)
      → outcome_of (said a) (lent (take (ns - 0) s) t') ≡ load_out (take (ns - 0) s) (take (nt - 0) t) (take (image_start k + n - image_start k) (drop (image_start k) i))
      → lending r s (t' ++ drop (nt - 0) t) i ≡ image_call l k b s t i
  unfolding image_call
  loaded-from b a r t' q p e =
      ap (λ x. lending x s (t' ++ drop (nt - 0) t) i) p
      ∙ ap (λ (o : Outcome Lent). lending (reply_of o.answer) s (o.after.tables ++ drop (nt - 0) t) i) e
      ∙ (λ j. loaded_from (of-store j) (of-tables j) (of_image j) k s t i)
      ∙ sym (simp (le-ltb last_image k lk, eq-eqb (length i) others_length long, q))

module _ (l : List ℕ) (b : Bool) (s t i : List ℕ) where
  -- ---- an image buffer that is not there

  module _ (k : ℕ) where
    pub no-image : last_image < k → lending Bad s t i ≡ image_call l k b s t i
    unfolding image_call
    no-image h = simp (lt-ltb last_image k h)

    pub no-images : k ≤ last_image → (length i ≡ others_length → ⊥) → lending Bad s t i ≡ image_call l k b s t i
    unfolding image_call
    no-images h n = simp (le-ltb last_image k h, ne_eqb (length i) others_length n)

  -- ---- the number of a line

  module _ (found : Option ℕ) where
    pub image-bad : found ≡ None → lending Bad s t i ≡ image_line l found b s t i
    unfolding image_line
    image-bad q = sym (ap (on_one (λ k. image_call l k b s t i) (lending Bad s t i)) q)

    pub image-one : (k : ℕ) (y : Lending) → found ≡ Some k → y ≡ image_call l k b s t i → y ≡ image_line l found b s t i
    unfolding image_line
    image-one k y q r = r ∙ sym (ap (on_one (λ k. image_call l k b s t i) (lending Bad s t i)) q)

pub ruleset image-calls = (no-image, no-images, saved-to, loaded-from)

pub ruleset image-lines = (image-bad, image-one)
