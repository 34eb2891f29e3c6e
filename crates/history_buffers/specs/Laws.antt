-- What the code uses of these meanings. Assumes nothing.
use Rattle.std.specs.Prelude.{ℕ, ◌+◌, ◌-◌, ◌*◌, ◌%◌, ◌≤◌, ◌<◌, ◌≡◌, min, Bool, true, false, cond, ltb, List, [], ◌∷◌, length, get_or, set, take, Option, Some, None}
use Rattle.std.proofs.Math.Path.{refl, sym, ap}
use Rattle.std.proofs.Common.{◌∙◌, arith, fold}
use Rattle.std.proofs.Math.Nat.{sub-zero}
use borrow.Author.Tests.{le-leb, lt-leb, lt-ltb, le-ltb, ltb-true, ltb-false}
use Rattle.history_words.specs.declared.Numbers.{Numbers}
use Rattle.history_lines.specs.declared.OfBuffer.{OfBuffer}
use Rattle.history_calls.specs.declared.Reply.{Reply}
use Rattle.history_calls.specs.declared.Reply.TheVariants.{Lent, Cell, Sum, Bad}
use Rattle.history_buffers.specs.declared.Answered.{Answered}
use Rattle.history_buffers.specs.Numbers.{no_number, one_number, two_numbers, on_one, on_two}
use Rattle.history_buffers.specs.Buffers.{answering, last_buffer, within_of, lent_of, lended, lend_line, sum_of, sum_line, peeked, peek_line, Poked, poking, poked, poke_line, Tested, testing, test_of}

-- ---- what is lent

pub min-within : (n most : ℕ) → min n most ≡ within_of n most
unfolding within_of
min-within n most = go (ltb most n) refl
  where
    go : (b : Bool) → ltb most n ≡ b → min n most ≡ cond (ltb most n) most n
    go true e =
        let more = ltb-true most n e in
        let least : min n most ≡ most = omega (arith, more) in
        least ∙ sym (simp e)
    go false e =
        let fewer = ltb-false most n e in
        let least : min n most ≡ n = omega (arith, fewer) in
        least ∙ sym (simp e)

module _ (l : List ℕ) (k most : ℕ) where
  pub lent_none : last_buffer < k → 0 ≡ lent_of l k most
  unfolding lent_of
  lent_none h = simp (lt-ltb last_buffer k h)

  pub lent-some : (r : ℕ) → k ≤ last_buffer → r ≡ within_of (get_or l k 0) most → r ≡ lent_of l k most
  unfolding lent_of
  lent-some r h e = e ∙ sym (simp (le-ltb last_buffer k h))

  pub lend-most : (n : ℕ) → most < n → answering Bad l ≡ lended l k most n
  unfolding lended
  lend-most n h = simp (lt-ltb most n h)

  pub lend-where : (n : ℕ) → n ≤ most → last_buffer < k → answering Bad l ≡ lended l k most n
  unfolding lended
  lend-where n h g = simp (le-ltb most n h, lt-ltb last_buffer k g)

  pub lend-there : (n : ℕ) → n ≤ most → k ≤ last_buffer → answering (Lent n) (set l k n) ≡ lended l k most n
  unfolding lended
  lend-there n h g = simp (le-ltb most n h, le-ltb last_buffer k g)

  module _ (ns : Option Numbers) (a : Answered) where
    pub lend-bad : None ≡ one_number ns → a ≡ answering Bad l → a ≡ lend_line l k most ns
    unfolding lend_line
    lend-bad e p = p ∙ ap (on_one (lended l k most) (answering Bad l)) e

    pub lend-one : (n : ℕ) → Some n ≡ one_number ns → a ≡ lended l k most n → a ≡ lend_line l k most ns
    unfolding lend_line
    lend-one n e p = p ∙ ap (on_one (lended l k most) (answering Bad l)) e

pub ruleset lending = (lend-bad, lend-one)

-- ---- the sum, as the fold that the code makes

pub summed_by : (cells : List ℕ) (h : ℕ) → fold (λ h cell. (h * 31 + cell) % 4294967291) h cells ≡ sum_of h cells
unfolding sum_of
summed_by [] h = refl
summed_by (c ∷ cells) h = summed_by cells ((h * 31 + c) % 4294967291)

module _ (cells l : List ℕ) (k : ℕ) (ns : Option Numbers) (b : Bool) (e : b ≡ no_number ns) where
  pub sum-bad : b ≡ false → Bad ≡ sum_line cells l k ns
  unfolding sum_line
  sum-bad q = rw (sym e ∙ q) refl

  pub sum-lent : (n h : ℕ) → b ≡ true → n ≡ lent_of l k (length cells) → h ≡ sum_of 0 (take (n - 0) cells) → Sum h ≡ sum_line cells l k ns
  unfolding sum_line
  sum-lent n h q p r = rw (sym e ∙ q) (ap Sum (r ∙ ap (λ m. sum_of 0 (take m cells)) (sub-zero n ∙ p)))

-- ---- one cell

pub peek-beyond : (cells : List ℕ) (i : ℕ) → length cells ≤ i → Bad ≡ peeked cells i
unfolding peeked
peek-beyond cells i l = simp (le-leb (length cells) i l)

pub peek-there : (cells : List ℕ) (i : ℕ) → i < length cells → Cell (get_or cells i 0) ≡ peeked cells i
unfolding peeked
peek-there cells i l = simp (lt-leb (length cells) i l)

pub poke-beyond : (cells : List ℕ) (i v : ℕ) → length cells ≤ i → poking Bad cells ≡ poked cells i v
unfolding poked
poke-beyond cells i v l = simp (le-leb (length cells) i l)

pub poke-there : (cells : List ℕ) (i v : ℕ) → i < length cells → poking (Cell v) (set cells i v) ≡ poked cells i v
unfolding poked
poke-there cells i v l = simp (lt-leb (length cells) i l)

module _ (cells : List ℕ) (ns : Option Numbers) where
  pub peek-bad : None ≡ one_number ns → Bad ≡ peek_line cells ns
  unfolding peek_line
  peek-bad e = ap (on_one (peeked cells) Bad) e

  pub peek-one : (i : ℕ) (r : Reply) → Some i ≡ one_number ns → r ≡ peeked cells i → r ≡ peek_line cells ns
  unfolding peek_line
  peek-one i r e p = p ∙ ap (on_one (peeked cells) Bad) e

  pub poke-bad : None ≡ two_numbers ns → poking Bad cells ≡ poke_line cells ns
  unfolding poke_line
  poke-bad e = ap (on_two (poked cells) (poking Bad cells)) e

  pub poke-two : (i v : ℕ) (y : Poked) → Some (i, v) ≡ two_numbers ns → y ≡ poked cells i v → y ≡ poke_line cells ns
  unfolding poke_line
  poke-two i v y e p = p ∙ ap (on_two (poked cells) (poking Bad cells)) e

pub ruleset lines = (sum-bad, sum-lent, peek-bad, peek-one, poke-bad, poke-two)

-- ---- any of them

module _ (l : List ℕ) (k : ℕ) (ns : Option Numbers) where
  pub test_known : (cells : List ℕ) (w v : Option OfBuffer) (y : Tested) → w ≡ v → y ≡ test_of v cells l k ns → y ≡ test_of w cells l k ns
  test_known cells w v y q r = r ∙ sym (ap (λ x. test_of x cells l k ns) q)

  pub word-known : (cells : List ℕ) (w v : OfBuffer) (y : Tested) → w ≡ v → y ≡ test_of (Some v) cells l k ns → y ≡ test_of (Some w) cells l k ns
  word-known cells w v y q r = r ∙ sym (ap (λ x. test_of (Some x) cells l k ns) q)

  pub told_same : (cells : List ℕ) (r s : Reply) → r ≡ s → testing (answering r l) cells ≡ testing (answering s l) cells
  told_same cells r s e = ap (λ x. testing (answering x l) cells) e

  pub told-poked : (r : Reply) (cells : List ℕ) (p : Poked) → poking r cells ≡ p → testing (answering r l) cells ≡ testing (answering p.reply l) p.cells
  told-poked r cells p e = ap (λ (x : Poked). testing (answering x.reply l) x.cells) e

  pub told-lent : (cells : List ℕ) (a b : Answered) → a ≡ b → testing a cells ≡ testing b cells
  told-lent cells a b e = ap (λ x. testing x cells) e

pub ruleset tested = (test_known, word-known, told_same, told-poked, told-lent)
