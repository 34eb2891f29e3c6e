-- A turn, as the code's steps give its premises. Assumes nothing.
use Rattle.std.specs.Prelude.{Err, Ok}
use Prim.Native.Nat.{ℕ, ◌+◌, ◌-◌, ◌*◌, ◌≤◌, ◌<◌}
use mathlib.Core.Path.{◌≡◌, refl, sym, ap, subst, ◌∙◌}
use mathlib.Core.Logic.{◌≢◌}
use mathlib.Core.Bool.{Bool, false}
use mathlib.Core.List.{List, [], ◌∷◌, map}
use native.Mathlib.Omega.{arith}
use lib.ListN.{length, get_or, drop}
use lib.Seq.{drop-cons}
use Rattle.combine.specs.Lists.{tab}
use Rattle.combine.specs.Laws.Lists.{length-tab}
use Rattle.combine.specs.Verdict.{Verdict}
use Rattle.answers.specs.declared.Refusal.{Refusal}
use Rattle.answers.specs.Said.{Answer}
use Rattle.numbers.specs.declared.Number.TheVariants.{Plain}
use Rattle.numbers.specs.Numbers.{is_foreign, too_wide}
use Rattle.placing.specs.declared.Segment.{Segment}
use Rattle.placing.specs.declared.Position.{Position}
use Rattle.placing.specs.Sizes.{segment_cells, greatest_end, entries, tables_length}
use Rattle.placing.specs.Placing.{position}
use Rattle.rules.specs.Calls.{Act, write}
use Rattle.rules.specs.Effects.{Use}
use Rattle.tables.specs.declared.Opening.{Opening}
use Rattle.tables.specs.Layout.{segments_in, opening_at, put_opening}
use Rattle.tables.specs.Fields.{value_of}
use Rattle.tables.specs.Handles.{pointed}
use Rattle.cells.specs.Outcomes.{lent, outcome}
use Rattle.opening_laws.specs.Back.{OpenFile}
use Rattle.gate_laws.specs.Standing.{Standing, standing-long, standing-entry, standing-fits}
use Rattle.gate_laws.specs.Known.{Known, standing-known}
use Rattle.gate_laws.specs.Used.{used_out}
use Rattle.write_plan.specs.declared.Plan.{Plan}
use Rattle.write_plan.specs.declared.Plan.TheVariants.{Drop, Put}
use Rattle.write_plan.specs.Plans.{write_verdict, Drops, Puts, Decision, Says, Planned}
use Rattle.call_write.specs.Settled.{Chosen}
use Rattle.call_write.proofs.Carries.{carry-no, planned-ok}
use Rattle.run_spans.specs.Ahead.{Ahead, Fewer, Fits, Fitting}
use Rattle.run_laws.specs.Singles.{use_on, writes_of, Goes}
use Rattle.run_laws.specs.Stands.{use-used, one-goes}
use Rattle.run_puts.specs.Puts.{put_first, Points, Many, Stretched}
use Rattle.call_write_run.specs.Turned.{first_wide, Decided, Leave, Turn, Turned}
use Rattle.call_write_run.proofs.Own.{Own}
use Rattle.call_write_run.proofs.Judged.{write-judged, puts-fits, puts-own, puts-points}
use Rattle.call_write_run.proofs.Steps.{put-goes}
use Rattle.call_write_run.proofs.Drops.{drop-goes}

-- ---- the single call of the next element

module _ (s t : List ℕ) (i : ℕ) (o : Opening) (p : ℕ) (l : List ℕ) (w : Standing (length s) t i) (eo : o ≡ opening_at t i) where
  first-call : use_on i (write p (get_or l 0 0)) (lent s t) ≡ used_out s t i o (write_verdict t o p false (first_wide o l) (get_or l 0 0))
  unfolding write_verdict
  first-call =
      use-used s t i w (write p (get_or l 0 0))
      ∙ (λ j. let y = sym eo j in used_out s t i y (write_verdict t y p false (too_wide y.species (Plain (get_or l 0 0))) (get_or l 0 0)))

  -- what was decided for it
  module _ (wide : Bool) (ew : wide ≡ first_wide o l) (d : Decision) (f : Planned t o p (write_verdict t o p false wide) d) where
    planned-first : Planned t o p (write_verdict t o p false (first_wide o l)) d
    planned-first = subst (λ (b : Bool). Planned t o p (write_verdict t o p false b) d) ew f

    pub decide-stops : (why : Refusal) → d ≡ Err why → (r : Turn) → r ≡ Err why → Turned i p l s t r s t
    decide-stops why ed r er =
        subst (λ (x : Turn). Turned i p l s t x s t) (sym er)
        (record { says = first-call ∙ sym (carry-no s t i o p (write_verdict t o p false (first_wide o l)) d planned-first why ed (Err why) refl (get_or l 0 0)) })

    pub decided-here : 1 ≤ length l → (plan : Plan) → d ≡ Ok plan → Decided s t i o p l plan
    decided-here h plan ed = record { standing = w; loaded = eo; planned = planned-ok t o p (write_verdict t o p false (first_wide o l)) d planned-first plan ed; some = h }

module _ (s t : List ℕ) (i : ℕ) (o : Opening) (p : ℕ) (l : List ℕ) (plan : Plan) (d : Decided s t i o p l plan) where
  pub decided-long : length t ≡ tables_length
  decided-long = standing-long d.standing

  pub decided-entry : i < entries
  decided-entry = standing-entry d.standing

  pub decided-fits : segments_in t * segment_cells ≤ length s
  decided-fits = standing-fits d.standing

  pub decided-known : Known t o
  decided-known = standing-known s t i d.standing o d.loaded

  pub decided-chosen : Chosen t o p (Ok plan)
  decided-chosen = (write_verdict t o p false (first_wide o l), d.planned)

  says : (q : Plan) → plan ≡ q → Says t o p (write_verdict t o p false (first_wide o l)) (Ok q)
  says q e = subst (λ (x : Plan). Says t o p (write_verdict t o p false (first_wide o l)) (Ok x)) e d.planned.says

  -- ---- one element: a is the answer of the single call

  module _ (a : Answer) (s' t' : List ℕ)
      (e : (verdict : ℕ → Verdict Use) → Planned t o p verdict (Ok plan) → outcome a s' t' ≡ used_out s t i o (verdict (get_or l 0 0))) where
    one : use_on i (write p (get_or l 0 0)) (lent s t) ≡ outcome a s' t'
    one = first-call s t i o p l d.standing d.loaded ∙ sym (e (write_verdict t o p false (first_wide o l)) d.planned)

    pub step-stops : (why : Refusal) → a ≡ Err why → (r : Turn) → r ≡ Err why → Turned i p l s t r s' t'
    step-stops why ea r er = subst (λ (x : Turn). Turned i p l s t x s' t') (sym er) (record { says = one ∙ ap (λ (x : Answer). outcome x s' t') ea })

    pub step_went : (v : ℕ) → a ≡ Ok v → Turned i p l s t (Ok 1) s' t'
    step_went v ea =
        let first : write p (get_or l 0 0) ∷ writes_of p (drop 1 l) ≡ writes_of p l = sym (ap (map (write p)) (drop-cons l 0 0 d.some)) in
        record {
          says = record {
            told = v ∷ [];
            many = refl;
            goes = subst (λ (x : List Act). Goes i x s t (v ∷ []) s' t') first
                (one-goes s t i d.standing (write p (get_or l 0 0)) (writes_of p (drop 1 l)) v s' t' (one ∙ ap (λ (x : Answer). outcome x s' t') ea));
          };
        }

  -- ---- elements are dropped: b is the begin

  module _ (e : plan ≡ Drop) where
    drops : Drops o p (write_verdict t o p false (first_wide o l))
    drops = says Drop e

    pub drop-file : OpenFile o
    drop-file = decided-known.file

    pub drop-some : value_of o 0 < value_of o 1
    drop-some = drops.some

    module _ (k : ℕ) (a : Leave o l k) (b : Position) (eb : b.0 ≡ value_of o 0) where
      pub drop-fits : b.0 + k ≤ greatest_end
      drop-fits = let c = decided-known.file.last in let q = a.ahead.before in let h = a.fewer in omega arith

      pub drop-turned : k ≢ 0 → (y : Position) (n : Opening) (t' : List ℕ) → y.0 ≡ b.0 + k → n ≡ pointed o 0 y → t' ≡ put_opening t i n → Turned i p l s t (Ok k) s t'
      drop-turned k0 y n t' ey en et =
          let judged = write-judged t o p (first_wide o l) 0 _ (drops.told 0) in
          let leaving : Leave (opening_at t i) l k = subst (λ (z : Opening). Leave z l k) d.loaded a in
          let kind : is_foreign false (opening_at t i).species ≡ false = ap (λ (z : Opening). is_foreign false z.species) (sym d.loaded) ∙ judged.kind in
          let works : (opening_at t i).permit ≡ 1 = ap (λ (z : Opening). z.permit) (sym d.loaded) ∙ judged.works in
          let went = drop-goes s t i d.standing kind works l k leaving.most (omega arith) leaving.few leaving.fit leaving.fewer leaving.ahead in
          let to : put_opening t i (pointed (opening_at t i) 0 (position (value_of (opening_at t i) 0 + k))) ≡ t' =
          (λ j. put_opening t i (pointed (sym d.loaded j) 0 (position (value_of (sym d.loaded j) 0 + k))))
          ∙ ap (λ (v : ℕ). put_opening t i (pointed o 0 (position v))) (ap (λ (v : ℕ). v + k) (sym eb) ∙ sym ey) ∙ ap (put_opening t i) (sym en) ∙ sym et in
          record {
            says = record {
              told = tab k (λ j. 0);
              many = length-tab k (λ j. 0);
              goes = subst (λ (z : ℕ). Goes i (writes_of z l) s t (tab k (λ j. 0)) s t') (sym drops.first) (subst (λ (z : List ℕ). Goes i (writes_of 0 l) s t (tab k (λ j. 0)) s z) to went);
            };
          }

-- how many: b and x are begin and end, m positions lie ahead, of n of the list's elements k fit
module _ (o : Opening) (w : OpenFile o) (some : value_of o 0 < value_of o 1) (b x : Position) (eb : b.0 ≡ value_of o 0) (ex : x.0 ≡ value_of o 1) where
  pub leave-first : 1 ≤ b.0
  leave-first = let f = w.first in omega arith

  pub leave-order : b.0 < x.0
  leave-order = omega arith

  pub leave-last : x.0 ≤ greatest_end
  leave-last = let f = w.last in omega arith

  pub leave-told : (m : ℕ) → Ahead o.species b.0 x.0 m → (l : List ℕ) (n : ℕ) → Fewer (m - 1) (length l) n → (k : ℕ) → Fitting o.species l n k → Leave o l k
  leave-told m a l n f k g =
      let some = a.some in
      let h = f.first in
      let q = f.second in
      let r = g.few in
      record {
        most = m;
        ahead = subst (λ (v : ℕ). Ahead o.species v (value_of o 1) m) eb (subst (λ (v : ℕ). Ahead o.species b.0 v m) ex a);
        fewer = omega arith;
        few = omega arith;
        fit = g.fit;
      }

-- ---- into the segment g

module _ (o : Opening) (p : ℕ) (t : List ℕ) (wide : Bool) (d : Decision) (a : Planned t o p (write_verdict t o p false wide) d) (plan : Plan) (ed : d ≡ Ok plan) (g : Segment) (e : plan ≡ Put g) where
  puts : Puts t o p (write_verdict t o p false wide) g
  puts = subst (λ (x : Decision). Says t o p (write_verdict t o p false wide) x) (ed ∙ ap Ok e) a.says

  module _ (known : Known t o) where
    pub stretch-points : Points o p
    stretch-points = puts-points t o p known wide g puts

    -- the first element is not too wide
    pub stretch-first : (l : List ℕ) → wide ≡ first_wide o l → Fits o.species l 0
    stretch-first l ew = sym ew ∙ puts-fits t o p known wide g puts

  pub stretch-fits : (s : List ℕ) → segments_in t * segment_cells ≤ length s → g.0 * segment_cells + segment_cells ≤ length s
  stretch-fits s h = omega (arith, puts.into.range)

  pub stretch-turned : (s : List ℕ) (i : ℕ) → Standing (length s) t i → o ≡ opening_at t i → (l : List ℕ) (k : ℕ) (s' t' : List ℕ) → Stretched s t i o p g l k s' t' → Turned i p l s t (Ok k) s' t'
  stretch-turned s i w eo l k s' t' r =
      let own = subst (λ (y : Opening). Own t y p g) eo (puts-own t o p (standing-known s t i w o eo) wide g puts) in
      let many = subst (λ (y : Opening). Many y p l k) eo r.many in
      let went = subst (λ (y : Opening). Goes i (writes_of p l) s t (tab k (λ j. 0)) (put_first s y.species g (value_of y p) l k) (put_opening t i (pointed y p (position (value_of y p + k))))) (sym eo)
      (put-goes s t i w p g own l k many.few many.fit many.ahead) in
      record {
        says = record {
          told = tab k (λ j. 0);
          many = length-tab k (λ j. 0);
          goes = subst (λ (x : List ℕ). Goes i (writes_of p l) s t (tab k (λ j. 0)) x t') (sym r.store)
              (subst (λ (x : List ℕ). Goes i (writes_of p l) s t (tab k (λ j. 0)) (put_first s o.species g (value_of o p) l k) x) (sym r.tables) went);
        };
      }

pub ruleset decided = (decided-long, decided-entry, decided-fits, decided-known, decided-chosen)

pub ruleset dropping = (drop-file, drop-some, drop-fits, drop-turned)

pub ruleset leaving = (leave-first, leave-order, leave-last, leave-told)
