-- The loop over turns, "what is done and then the rest": at entry i of 32, through pointer p, with the store's cells s, the tables' t and the list l,
-- of which n places are filled; goal is what the whole comes to. Assumes nothing.
use Rattle.std.specs.Prelude.{Ok, Err}
use Prim.Native.Nat.{ℕ, suc, ◌+◌, ◌≤◌, ◌<◌}
use mathlib.Core.Path.{◌≡◌, sym, ap, ◌∙◌}
use mathlib.Core.List.{List, [], ◌∷◌, ◌++◌, append_assoc}
use native.Mathlib.Nat.{zero-add, add-zero}
use native.Mathlib.Omega.{arith}
use lib.ListN.{length, take, drop, length-map, length-drop, take-append-drop, drop_of_length-le}
use lib.Seq.{take_all, length-paste, take-paste, drop-paste, drop-cons, drop-drop}
use Rattle.combine.specs.Run.{Ran, ran}
use Rattle.combine.specs.Laws.Mapped.{map-drop}
use Rattle.combine.specs.Laws.Run.{behind, run_none, run-stops}
use Rattle.answers.specs.declared.Refusal.{Refusal}
use Rattle.answers.specs.Said.{refusal_number}
use Rattle.rules.specs.Calls.{Act, next}
use Rattle.cells.specs.Outcomes.{Lent, lent}
use Rattle.cells.specs.Runs.{Filled, filled, filled_by}
use Rattle.gate_laws.specs.Standing.{Standing}
use Rattle.run_laws.specs.Singles.{use_on, uses_on, nexts_of}
use Rattle.call_fill_run.specs.Turned.{Fills, Stops, Handed}

-- n places are filled, and the rest comes to r
pub filled_on : ℕ → List ℕ → Ran Lent → Filled
filled_on n l r = filled (n + r.many) r.stop (take n l ++ (r.told ++ drop (n + r.many) l)) r.after

pub record Filling (i p : ℕ) (goal : Filled) (n : ℕ) (s t l : List ℕ) : Type 0 where
  pub few : n ≤ length l
  pub standing : Standing (length s) t i
  pub left : filled_on n l (uses_on i (nexts_of p (drop n l)) (lent s t)) ≡ goal

pub filling-starts : (i p : ℕ) (s t l : List ℕ) → Standing (length s) t i → Filling i p (filled_by p l (uses_on i (nexts_of p l) (lent s t))) 0 s t l
unfolding filled_on
filling-starts i p s t l w =
    let r = uses_on i (nexts_of p l) (lent s t) in
    record { few = omega arith; standing = w; left = λ q. filled (zero-add r.many q) r.stop (r.told ++ drop (zero-add r.many q) l) r.after }

-- nothing is left to do
here-ends : (n number : ℕ) (l : List ℕ) (x : Lent) → filled n number l x ≡ filled_on n l (ran 0 number [] x)
unfolding filled_on
here-ends n number l x = λ q. filled (sym (add-zero n) q) number ((sym (take-append-drop n l) ∙ ap (λ (m : ℕ). take n l ++ drop m l) (sym (add-zero n))) q) x

module _ (i p : ℕ) (goal : Filled) (n : ℕ) (s t l : List ℕ) (w : Filling i p goal n s t l) where
  pub filling-ends : length l ≤ n → (all : Unit {0}) → Handed l (Ok all) (lent s t) goal
  filling-ends h all =
      let many : length l ≡ n = omega (arith, w.few) in
      let none : drop n l ≡ [] = drop_of_length-le l h in
      record {
        says = ap (λ (m : ℕ). filled m 0 l (lent s t)) many ∙ here-ends n 0 l (lent s t)
            ∙ ap (filled_on n l) (sym (ap (λ (y : List ℕ). uses_on i (nexts_of p y) (lent s t)) none ∙ run_none (use_on i) (lent s t))) ∙ w.left;
      }

  module _ (t' l' : List ℕ) where
    pub filling-stops : n < length l → (why : Refusal) → Stops i p s t l (refusal_number why) t' l' → Handed l' (Err (n, why)) (lent s t') goal
    filling-stops h why a =
        let number = refusal_number why in
        let first : nexts_of p (drop n l) ≡ next p ∷ nexts_of p (drop (suc n) l) = ap (nexts_of p) (drop-cons l n 0 h) in
        let stopped : uses_on i (nexts_of p (drop n l)) (lent s t) ≡ ran 0 number [] (lent s t') =
        ap (λ (y : List Act). uses_on i y (lent s t)) first ∙ run-stops (use_on i) (next p) _ number (lent s t) (lent s t') (sym a.call) in
        record { says = ap (λ (y : List ℕ). filled n number y (lent s t')) a.list ∙ here-ends n number l (lent s t') ∙ ap (filled_on n l) (sym stopped) ∙ w.left }

    module _ (k : ℕ) (a : Fills i p s t l n k t' l') where
      pub turn-fits : n + k ≤ length l
      turn-fits = omega (arith, w.few, a.long, a.goes.few, length-map (drop n l) (λ m. next p), length-drop n l)

      front : take (n + k) l' ≡ take n l ++ a.told
      front =
          ap (take (n + k)) a.list ∙ take-paste l n a.told k w.few (omega (arith, a.long))
          ∙ ap (λ (y : List ℕ). take n l ++ y) (take_all k a.told (omega (arith, a.long)))

      back : drop (n + k) l' ≡ drop (n + k) l
      back = ap (drop (n + k)) a.list ∙ drop-paste l n a.told k w.few (omega (arith, a.long))

      -- the run of the rest
      rest : Ran Lent
      rest = uses_on i (nexts_of p (drop (n + k) l')) (lent s t')

      went : uses_on i (nexts_of p (drop n l)) (lent s t) ≡ behind a.told rest
      unfolding rest
      went =
          let acts : drop (length a.told) (nexts_of p (drop n l)) ≡ nexts_of p (drop (n + k) l') =
          ap (λ (m : ℕ). drop m (nexts_of p (drop n l))) a.long ∙ sym (map-drop (λ m. next p) k (drop n l)) ∙ ap (nexts_of p) (drop-drop k n l ∙ sym back) in
          a.goes.left ∙ ap (λ (y : List Act). behind a.told (uses_on i y (lent s t'))) acts

      pub filling-on : Filling i p goal (n + k) s t' l'
      unfolding rest behind filled_on
      filling-on =
          let many : n + k + rest.many ≡ n + (length a.told + rest.many) = omega (arith, a.long) in
          let beyond : drop (n + k + rest.many) l' ≡ drop (n + (length a.told + rest.many)) l =
          sym (drop-drop rest.many (n + k) l') ∙ ap (drop rest.many) back ∙ drop-drop rest.many (n + k) l ∙ ap (λ (y : ℕ). drop y l) many in
          let whole : take (n + k) l' ++ (rest.told ++ drop (n + k + rest.many) l') ≡ take n l ++ ((a.told ++ rest.told) ++ drop (n + (length a.told + rest.many)) l) =
          (λ q. front q ++ (rest.told ++ beyond q)) ∙ append_assoc (take n l) a.told _ ∙ ap (λ (y : List ℕ). take n l ++ y) (sym (append_assoc a.told rest.told _)) in
          record {
            few = omega (arith, turn-fits, ap length a.list ∙ length-paste l n a.told k turn-fits (omega (arith, a.long)));
            standing = a.goes.standing;
            left = (λ q. filled (many q) rest.stop (whole q) rest.after) ∙ ap (filled_on n l) (sym went) ∙ w.left;
          }
