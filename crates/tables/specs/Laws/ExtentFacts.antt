-- What a sound extent and a sound list of segment numbers say, fact by fact: a record's and an opening's alike. Assumes nothing.
use Rattle.std.specs.Prelude.{ℕ, ◌+◌, ◌-◌, ◌≤◌, ◌<◌, ◌≡◌, true, List}
use Rattle.std.proofs.Common.{sym, ap, ◌∙◌, arith, leb-true, ltb-true, eqb-true}
use Rattle.combine.specs.Laws.Below.{all-at}
use Rattle.combine.specs.Laws.Rows.{each_of}
use Rattle.placing.specs.declared.Segment.{Segment}
use Rattle.placing.specs.Sizes.{most_held, greatest_end, greatest_species}
use Rattle.placing.specs.Placing.{held_of}
use Rattle.tables.specs.Fields.{number_at}
use Rattle.tables.specs.Records.{extentb, listb}

-- s is a species, b and e are a file's begin and end
pub record SoundExtent (s b e : ℕ) : Type 0 where
  -- "species 0 to 5"
  pub species : s ≤ greatest_species
  -- "1 <= begin <= end"
  pub begin : 1 ≤ b
  pub end : b ≤ e
  -- "The begin and end values are 1 to" the greatest
  pub greatest : e ≤ greatest_end
  -- "at most 32 segments held"
  pub held : held_of s b e ≤ most_held

pub extentb-facts : (s b e : ℕ) → extentb s b e ≡ true → SoundExtent s b e
unfolding extentb
extentb-facts s b e ok =
    let f = each_of _ ok in
    record {
      species = leb-true s greatest_species f.0;
      begin = leb-true 1 b f.1.0;
      end = leb-true b e f.1.1.0;
      greatest = leb-true e greatest_end f.1.1.1.0;
      held = leb-true (held_of s b e) most_held f.1.1.1.1.0;
    }

-- a list in a store of n segments, of which it holds so many
pub record SoundList (n held : ℕ) (l : List Segment) : Type 0 where
  -- "segment numbers in range"
  pub in_range : (k : ℕ) → k < held → number_at l k < n
  -- "Unused list places are zero"
  pub unused_zero : (k : ℕ) → held ≤ k → k < most_held → number_at l k ≡ 0

pub listb-facts : (n held : ℕ) (l : List Segment) → listb n held l ≡ true → SoundList n held l
unfolding listb
listb-facts n held l ok =
    let f = each_of _ ok in
    record {
      in_range = λ k h. ltb-true (number_at l k) n (all-at _ held f.0 k h);
      unused_zero = λ k h m.
          let e : held + (k - held) ≡ k = omega arith in
          ap (number_at l) (sym e) ∙ eqb-true (number_at l (held + (k - held))) 0 (all-at _ (most_held - held) f.1.0 (k - held) (omega arith));
    }
