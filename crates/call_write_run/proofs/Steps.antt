-- One write of a stretch moves the pointer by one and does nothing else to the tables: i is an entry of 32, p a pointer, s the store's cells, t the
-- tables', n a number. Assumes nothing.
use Prim.Native.Nat.{ℕ, zero, suc, ◌+◌, ◌≤◌, ◌<◌}
use mathlib.Core.Path.{◌≡◌, refl, sym, ap, subst, ◌∙◌}
use mathlib.Core.Bool.{Bool, false}
use mathlib.Core.List.{List, [], ◌∷◌, map}
use native.Mathlib.Nat.{le_of_suc-le-suc, not-suc-le-zero}
use native.Mathlib.Numerals.{add-one}
use native.Mathlib.Omega.{arith}
use lib.ListN.{length, get_or, length-map}
use Rattle.combine.specs.Lists.{tab}
use Rattle.numbers.specs.declared.Number.TheVariants.{Plain}
use Rattle.numbers.specs.Numbers.{too_wide}
use Rattle.placing.specs.declared.Segment.{Segment}
use Rattle.placing.specs.Placing.{position}
use Rattle.store.specs.Store.{put_element}
use Rattle.rules.specs.Calls.{Act, write, reset}
use Rattle.tables.specs.declared.Opening.{Opening}
use Rattle.tables.specs.Layout.{opening_at, put_opening}
use Rattle.tables.specs.Fields.{value_of}
use Rattle.tables.specs.Handles.{pointed}
use Rattle.gate_laws.specs.Standing.{Standing, standing-long}
use Rattle.cells.specs.Outcomes.{lent}
use Rattle.gate_laws.specs.Known.{Known, standing-known}
use Rattle.gate_laws.specs.Used.{used_out}
use Rattle.write_plan.specs.declared.Plan.TheVariants.{Put}
use Rattle.write_plan.specs.Plans.{write_verdict}
use Rattle.call_write.specs.Settled.{settled}
use Rattle.call_write.proofs.Carries.{carry-put}
use Rattle.run_spans.specs.Ahead.{Ahead, Fits}
use Rattle.run_laws.specs.Singles.{use_on, writes_of, Goes}
use Rattle.run_laws.specs.Stands.{use-used}
use Rattle.run_laws.specs.Pointed.{by-there, by_value}
use Rattle.run_laws.specs.Along.{Steps, goes-along}
use Rattle.run_puts.specs.Puts.{put_first, limit_of}
use Rattle.call_write_run.proofs.Own.{Own, own-planned, own_on}

pub map_at : {A B : Type 0} (f : A → B) (l : List A) (j : ℕ) (a : A) (b : B) → j < length l → get_or (map f l) j b ≡ f (get_or l j a)
map_at f [] j a b h = absurd (not-suc-le-zero h)
map_at f (x ∷ l) zero a b h = refl
map_at f (x ∷ l) (suc j) a b h = map_at f l j a b (le_of_suc-le-suc h)

-- a write of a number that is not too wide
pub fitting-used : (s t : List ℕ) (i : ℕ) → Standing (length s) t i → (p n : ℕ) → too_wide (opening_at t i).species (Plain n) ≡ false
    → let o = opening_at t i in use_on i (write p n) (lent s t) ≡ used_out s t i o (write_verdict t o p false false n)
unfolding write_verdict
fitting-used s t i w p n fits = use-used s t i w (write p n) ∙ ap (λ (b : Bool). used_out s t i (opening_at t i) (write_verdict t (opening_at t i) p false b n)) fits

module _ (s t : List ℕ) (i : ℕ) (w : Standing (length s) t i) where
  pub known : Known t (opening_at t i)
  known = standing-known s t i w (opening_at t i) refl

  -- ---- into a segment that the opening holds alone

  put-steps : (p : ℕ) (g : Segment) → Own t (opening_at t i) p g → (n : ℕ) → too_wide (opening_at t i).species (Plain n) ≡ false
      → let o = opening_at t i in Steps i p (write p n) s t 0 (put_element s o.species g (position (value_of o p)) n)
  unfolding settled
  put-steps p g a n fits =
      let o = opening_at t i in
      record {
        outcome = fitting-used s t i w p n fits
            ∙ sym (carry-put t o p (write_verdict t o p false false) (Put g) (own-planned t o known g p a) s i n known g (settled s t i o p n g) refl refl);
      }

module _ (s t : List ℕ) (i : ℕ) (w : Standing (length s) t i) where
  module _ (p : ℕ) (g : Segment) (a : Own t (opening_at t i) p g) (l : List ℕ) (k : ℕ) (few : k ≤ length l)
      (fit : (j : ℕ) → j < k → Fits (opening_at t i).species l j) (f : let o = opening_at t i in Ahead o.species (value_of o p) (limit_of o p) k) where
    o : Opening
    o = opening_at t i

    v : ℕ
    v = value_of (opening_at t i) p

    -- where j elements are put
    store : ℕ → List ℕ
    store j = put_first s (opening_at t i).species g (value_of (opening_at t i) p) l j

    tables : ℕ → List ℕ
    tables j = put_opening t i (pointed (opening_at t i) p (position (value_of (opening_at t i) p + j)))

    put_step : (j : ℕ) → j < k → Standing (length (store j)) (tables j) i → Steps i p (get_or (writes_of p l) j reset) (store j) (tables j) 0 (store (j + 1))
    unfolding o v store tables put_first
    put_step j lt q =
        let n : ℕ = get_or l j 0 in
        let there : opening_at (tables j) i ≡ pointed o p (position (v + j)) = by-there t (standing-long w) i w.entry p j in
        let at : value_of (opening_at (tables j) i) p ≡ v + j = ap (λ (y : Opening). value_of y p) there ∙ by_value t (standing-long w) i w.entry p a.known j in
        let own : Own (tables j) (opening_at (tables j) i) p g =
        subst (λ (y : Opening). Own (tables j) y p g) (sym there) (own_on t (standing-long w) i w.entry (known s t i w) p g a k f j lt) in
        let next : put_element (store j) (opening_at (tables j) i).species g (position (value_of (opening_at (tables j) i) p)) n ≡ store (j + 1) =
        (λ z. put_element (store j) (there z).species g (position (at z)) n) ∙ ap store (sym (add-one j)) in
        subst (λ (c : Act). Steps i p c (store j) (tables j) 0 (store (j + 1))) (sym (map_at (write p) l j 0 reset (omega arith)))
        (subst (λ (c : List ℕ). Steps i p (write p n) (store j) (tables j) 0 c) next
        (put-steps (store j) (tables j) i q p g own n (ap (λ (y : Opening). too_wide y.species (Plain n)) there ∙ fit j lt)))

    pub put-goes : let o = opening_at t i in
        Goes i (writes_of p l) s t (tab k (λ j. 0)) (put_first s o.species g (value_of o p) l k) (put_opening t i (pointed o p (position (value_of o p + k))))
    unfolding o v store tables put_first
    put-goes =
        goes-along i p (writes_of p l) s t w a.known k f.some (omega (arith, few, length-map l (write p))) store refl (λ j. 0) put_step
