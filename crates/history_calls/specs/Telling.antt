-- What the code that makes calls uses of their meaning: a word that is known, numbers that are known. Assumes nothing.
use Rattle.std.specs.Prelude.{ℕ, ◌+◌, ◌-◌, ◌≤◌, ◌≡◌, Bool, true, false, cond, List, [], length, drop, Option, Some, None, ℤ}
use Rattle.std.proofs.Common.{sym, ◌∙◌, arith, length-drop, drop_of_length-le, take_all, SFits, of_z, to_z}
use Rattle.std.proofs.Math.Path.{ap, refl}
use Rattle.std.specs.Int.{w32}
use Rattle.std.proofs.lemmas.Int.{to_z-of_z}
use Rattle.rules.specs.Calls.{Call}
use Rattle.history_words.specs.declared.Numbers.{Numbers}
use lib.Pointwise.{pointwise}
use lib.Dec.{eqb}
use Rattle.history_words.specs.Laws.{same-bytes}
use Rattle.history_words.specs.Words.{sameb, word_end, part, numbers_at}
use Rattle.history_lines.specs.declared.OfTwo.{OfTwo}
use Rattle.history_lines.specs.declared.OfThree.{OfThree}
use Rattle.history_lines.specs.declared.OfName.{OfName}
use Rattle.history_lines.specs.declared.signed.SignedWrite.{SignedWrite}
use Rattle.history_lines.specs.Spelling.{found, name_words}
use Rattle.history_lines.specs.Naming.{named_at}
use Rattle.history_lines.specs.Signing.{signed_write, signed_write_at}
use Rattle.history_calls.specs.Calls.{two_call, three_call, name_call, named_call, with_name, two_word_call, three_word_call, call_of, call_with, signed_call, call_from, call_in}
use Rattle.history_calls.specs.Told.{Told, told_of, tell-call, tell-signed, tell-count, tell_none}

module _ (s t : List ℕ) (y : Told) where
  pub two-known : (w k : OfTwo) (u e : ℕ) → w ≡ k → y ≡ told_of (two_call k u e) s t → y ≡ told_of (two_call w u e) s t
  two-known w k u e q r = r ∙ sym (ap (λ x. told_of (two_call x u e) s t) q)

  pub three-known : (w k : OfThree) (u e n : ℕ) → w ≡ k → y ≡ told_of (three_call k u e n) s t → y ≡ told_of (three_call w u e n) s t
  three-known w k u e n q r = r ∙ sym (ap (λ x. told_of (three_call x u e n) s t) q)

  pub name-known : (w k : Option OfName) (u e : ℕ) (name : List ℕ) → w ≡ k → y ≡ told_of (name_call k u e name) s t → y ≡ told_of (name_call w u e name) s t
  name-known w k u e name q r = r ∙ sym (ap (λ x. told_of (name_call x u e name) s t) q)

  pub word-known : (w k : OfName) (u e : ℕ) (name : List ℕ) → w ≡ k → y ≡ told_of (name_call (Some k) u e name) s t → y ≡ told_of (name_call (Some w) u e name) s t
  word-known w k u e name q r = r ∙ sym (ap (λ x. told_of (name_call (Some x) u e name) s t) q)

  pub two-found : (w x : Option OfTwo) (u e : ℕ) → x ≡ w → y ≡ told_of (two_word_call x u e) s t → y ≡ told_of (two_word_call w u e) s t
  two-found w x u e q r = r ∙ ap (λ z. told_of (two_word_call z u e) s t) q

  pub three-found : (w x : Option OfThree) (u e n : ℕ) → x ≡ w → y ≡ told_of (three_word_call x u e n) s t → y ≡ told_of (three_word_call w u e n) s t
  three-found w x u e n q r = r ∙ ap (λ z. told_of (three_word_call z u e n) s t) q

  -- ---- a word and its numbers

  pub numbers-known : (w : List ℕ) (m k : Option Numbers) → m ≡ k → y ≡ told_of (call_with w k) s t → y ≡ told_of (call_with w m) s t
  numbers-known w m k q r = r ∙ sym (ap (λ x. told_of (call_with w x) s t) q)

  pub these-known : (w : List ℕ) (m k : Numbers) → m ≡ k → y ≡ told_of (call_of w k) s t → y ≡ told_of (call_of w m) s t
  these-known w m k q r = r ∙ sym (ap (λ x. told_of (call_of w x) s t) q)

  module _ (b : Bool) (w spelt : List ℕ) (c d : Option Call) (e : b ≡ sameb w spelt) where
    pub word-here : b ≡ true → y ≡ told_of c s t → y ≡ told_of (cond (sameb w spelt) c d) s t
    word-here q r = rw (sym e ∙ q) r

    pub word-other : b ≡ false → y ≡ told_of d s t → y ≡ told_of (cond (sameb w spelt) c d) s t
    word-other q r = rw (sym e ∙ q) r

  -- by the test that the slices' == makes
  module _ (b : Bool) (w spelt : List ℕ) (c d : Option Call) (e : b ≡ pointwise eqb w spelt) where
    pub equal-here : b ≡ true → y ≡ told_of c s t → y ≡ told_of (cond (sameb w spelt) c d) s t
    equal-here q r = word-here b w spelt c d (e ∙ same-bytes w spelt) q r

    pub equal-other : b ≡ false → y ≡ told_of d s t → y ≡ told_of (cond (sameb w spelt) c d) s t
    equal-other q r = word-other b w spelt c d (e ∙ same-bytes w spelt) q r

  -- ---- a line with a name

  module _ (w : Option OfName) (line : List ℕ) (at : ℕ) where
    named-read : (x : Option (ℕ × ℕ × ℕ)) → x ≡ named_at line at → y ≡ told_of (with_name w line x) s t → y ≡ told_of (named_call w line at) s t
    unfolding named_call
    named-read x e r = r ∙ ap (λ z. told_of (with_name w line z) s t) e

    pub no-word : w ≡ None → y ≡ told_of None s t → y ≡ told_of (named_call w line at) s t
    unfolding named_call
    no-word q r = r ∙ nothing (named_at line at) ∙ sym (ap (λ v. told_of (with_name v line (named_at line at)) s t) q)
      where
        nothing : (x : Option (ℕ × ℕ × ℕ)) → told_of None s t ≡ told_of (with_name None line x) s t
        nothing (Some found) = refl
        nothing None = refl

    pub no-name-read : None ≡ named_at line at → y ≡ told_of None s t → y ≡ told_of (named_call w line at) s t
    no-name-read e r = named-read None e r

    module _ (u n to : ℕ) (e : Some (u, n, to) ≡ named_at line at) where
      pub name-read : y ≡ told_of (name_call w u n (drop (to + 1) line)) s t → y ≡ told_of (named_call w line at) s t
      name-read r = named-read (Some (u, n, to)) e r

      pub name-follows : y ≡ told_of (name_call w u n (part (to + 1) (length line) line)) s t → y ≡ told_of (named_call w line at) s t
      name-follows r =
          let long : length (drop (to + 1) line) ≤ length line - (to + 1) = let h = length-drop (to + 1) line in omega arith in
          name-read (r ∙ ap (λ z. told_of (name_call w u n z) s t) (take_all (length line - (to + 1)) (drop (to + 1) line) long))

      pub nothing-follows : length line ≤ to → y ≡ told_of (name_call w u n []) s t → y ≡ told_of (named_call w line at) s t
      nothing-follows l r = name-read (r ∙ ap (λ z. told_of (name_call w u n z) s t) (sym (drop_of_length-le line {i = to + 1} (omega (arith, l)))))

  -- ---- a line

  pub word_read : (line : List ℕ) (at : ℕ) (x : Option OfName) → at ≡ word_end line 0 → x ≡ found name_words (part 0 at line) → y ≡ told_of (call_from x line at) s t → y ≡ told_of (call_in line) s t
  unfolding call_in
  word_read line at x a e r =
      r
      ∙ ap (λ z. told_of (call_from z line at) s t) e
      ∙ ap (λ i. told_of (call_from (found name_words (part 0 i line)) line i) s t) a

  -- ---- a word and the numbers after it, plain ones or a signed one at the end

  pub signed-read : (line : List ℕ) (at : ℕ) (w : Option SignedWrite) → w ≡ signed_write_at line at → y ≡ told_of (signed_call w) s t → y ≡ told_of (signed_call (signed_write_at line at)) s t
  signed-read line at w q r = r ∙ ap (λ z. told_of (signed_call z) s t) q

  pub numbers-read : (w line : List ℕ) (at : ℕ) (m : Option Numbers) → m ≡ numbers_at line at → y ≡ told_of (call_with w m) s t → y ≡ told_of (call_with w (numbers_at line at)) s t
  numbers-read w line at m q r = r ∙ ap (λ z. told_of (call_with w z) s t) q

  module _ (w : Option SignedWrite) where
    pub no-signed-write : w ≡ None → y ≡ told_of None s t → y ≡ told_of (signed_call w) s t
    no-signed-write q r = r ∙ sym (ap (λ x. told_of (signed_call x) s t) q)

    -- a signed number comes out of its bits again
    pub signed-write : (u n p : ℕ) (z : ℤ) → SFits w32 z → w ≡ Some (signed_write u n p z)
        → y ≡ told_of (signed_call (Some (signed_write u n p (to_z w32 (of_z w32 z))))) s t → y ≡ told_of (signed_call w) s t
    signed-write u n p z f q r = r ∙ ap (λ x. told_of (signed_call (Some (signed_write u n p x))) s t) (to_z-of_z w32 z f) ∙ sym (ap (λ x. told_of (signed_call x) s t) q)

pub ruleset known = (tell-call, tell-signed, tell_none, two-known, three-known, word-known)

pub ruleset counted = (tell-call, tell-count, tell_none, these-known, equal-here, equal-other, two-found, three-found)

pub ruleset heard = (word_read)

pub ruleset parted = (tell_none, equal-here, equal-other, signed-read, numbers-read, no-signed-write)

pub ruleset spoken = (tell_none, no-word, name-known, no-name-read, name-follows, nothing-follows)
