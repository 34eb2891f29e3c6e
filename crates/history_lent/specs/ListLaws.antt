-- What the code of runs uses of their meaning, where cells are lent from 0 on. Assumes nothing.
use Rattle.std.specs.Prelude.{ℕ, ◌+◌, ◌-◌, ◌≤◌, ◌<◌, ◌≡◌, Bool, true, false, List, [], ◌∷◌, ◌++◌, take, Option}
use Rattle.std.proofs.Math.Path.{sym, ap}
use Rattle.std.proofs.Common.{◌∙◌, arith}
use Rattle.std.proofs.Math.Nat.{sub-zero}
use borrow.Author.Tests.{lt-ltb, le-ltb, eq-eqb, ne_eqb}
use Rattle.std.proofs.Math.ListN.{length, drop, length-drop}
use Rattle.std.proofs.lemmas.List.{length-map}
use Rattle.combine.specs.Verdict.{Said, refused, done}
use Rattle.combine.specs.Outcome.{Outcome}
use Rattle.combine.specs.Run.{Ran, onwards, run_over, admitted}
use Rattle.rules.specs.Calls.{Request, uses, next, writes, fills}
use Rattle.rules.specs.Runs.{requests_of, admission}
use Rattle.cells.specs.Says.{house_of}
use Rattle.cells.specs.Outcomes.{Lent, lent, sound_lent, request_out, run_out}
use Rattle.cells.specs.Runs.{Written, written, written_by, Filled, filled, filled_by}
use Rattle.history_calls.specs.declared.Reply.{Reply}
use Rattle.history_calls.specs.declared.Reply.TheVariants as reply
use Rattle.history_calls.specs.Told.{Told, told}
use Rattle.history_buffers.specs.Buffers.{lent_of}
use Rattle.history_lent.specs.Rooms.{list_buffer, last_list, others_length, first_list, list_start, lending, Lending}
use Rattle.history_lent.specs.Lists.{wrote_list, Filling, filling, filled_list, wrote_from, filled_into, run_call, run_line}
use Rattle.history_words.specs.declared.Numbers.{Numbers}

-- ---- a run does not come to more elements than its list has

run-many : {A S : Type 0} (call : A → S → Outcome S) (l : List A) (x : S) → (run_over call l x).many ≤ length l
unfolding run_over
run-many call [] x = omega arith
run-many call (a ∷ l) x = go (call a x).answer (run-many call l (call a x).after)
  where
    go : (s : Said) → (run_over call l (call a x).after).many ≤ length l → (onwards s (call a x).after (run_over call l (call a x).after)).many ≤ length (a ∷ l)
    go (refused n) h = omega arith
    go (done v) h = omega (arith, h)

fill-many : (u e p : ℕ) (list s t : List ℕ) → (run_out (fills p list) s t u e).many ≤ length list
unfolding run_out
fill-many u e p list s t = go (admission (sound_lent s t) (fills p list) u e (house_of t))
  where
    calls : Ran Lent
    calls = run_over (λ (q : Request) (x : Lent). request_out q x.store x.tables u e) (requests_of (fills p list)) (lent s t)

    go : (v : Said) → (admitted (lent s t) v calls).many ≤ length list
    go (refused n) = omega arith
    go (done k) =
        omega (arith, run-many (λ (q : Request) (x : Lent). request_out q x.store x.tables u e) (requests_of (fills p list)) (lent s t), length-map list (λ (n : ℕ). uses (next p)))

-- ---- on a list that is lent

module _ (u e p : ℕ) (list s t : List ℕ) where
  module _ (rest s' t' : List ℕ) (n : ℕ) (a : written rest n (lent s' t') ≡ written_by p list (run_out (writes p list) s t u e)) where
    pub rest-short : length rest ≤ length list
    unfolding written
    rest-short =
        omega (arith, ap (λ (w : Written). length w.rest) a, length-drop (run_out (writes p list) s t u e).many list)

    pub rest-told : told (reply.Rest (length rest) n) (lent s' t') ≡ wrote_list u e p list s t
    unfolding wrote_list written
    rest-told = ap (λ (w : Written). told (reply.Rest (length w.rest) w.place) w.cells) a

  module _ (list' t' : List ℕ) (k n : ℕ) (a : filled k n list' (lent s t') ≡ filled_by p list (run_out (fills p list) s t u e)) where
    pub many-short : k ≤ length list
    unfolding filled
    many-short = omega (arith, ap (λ (f : Filled). f.many) a, fill-many u e p list s t)

    pub many-told : filling (reply.Filled k n) t' list' ≡ filled_list u e p list s t
    unfolding filled_list filled
    many-told = ap (λ (f : Filled). filling (reply.Filled f.many f.place) f.cells.tables f.list) a

pub ruleset on-lists = (rest-short, rest-told, many-short, many-told)

-- ---- on the buffers

module _ (l : List ℕ) (u e p : ℕ) (s t : List ℕ) (ns nt : ℕ) (es : ns ≡ lent_of l 0 (length s)) (et : nt ≡ lent_of l 1 (length t)) (i : List ℕ) (k n : ℕ)
    (en : n ≡ lent_of l (first_list + k) list_buffer) (lk : k ≤ last_list) (long : length i ≡ others_length) where
  of-store : ns - 0 ≡ lent_of l 0 (length s)
  of-store = sub-zero ns ∙ es

  of-tables : nt - 0 ≡ lent_of l 1 (length t)
  of-tables = sub-zero nt ∙ et

  of-list : list_start k + n - list_start k ≡ lent_of l (first_list + k) list_buffer
  of-list = let d : list_start k + n - list_start k ≡ n = omega arith in d ∙ en

  pub wrote-from : (b : Bool) (r : Reply) (s' t' : List ℕ) → b ≡ true
      → told r (lent s' t') ≡ wrote_list u e p (take (list_start k + n - list_start k) (drop (list_start k) i)) (take (ns - 0) s) (take (nt - 0) t)
      → lending r (s' ++ drop (ns - 0) s) (t' ++ drop (nt - 0) t) i ≡ run_call l u e p k b s t i
  unfolding run_call told
  wrote-from b r s' t' q a =
      ap (λ (o : Told). lending o.reply (o.cells.store ++ drop (ns - 0) s) (o.cells.tables ++ drop (nt - 0) t) i) a
      ∙ (λ j. wrote_from (of-store j) (of-tables j) (of-list j) u e p k s t i)
      ∙ sym (simp (le-ltb last_list k lk, eq-eqb (length i) others_length long, q))

  pub filled-into : (b : Bool) (r : Reply) (t' list' : List ℕ) → b ≡ false
      → filling r t' list' ≡ filled_list u e p (take (list_start k + n - list_start k) (drop (list_start k) i)) (take (ns - 0) s) (take (nt - 0) t)
      → lending r s (t' ++ drop (nt - 0) t) (take (list_start k) i ++ (list' ++ drop (list_start k + n - list_start k) (drop (list_start k) i))) ≡ run_call l u e p k b s t i
  unfolding run_call filling
  filled-into b r t' list' q a =
      ap (λ (o : Filling). lending o.reply s (o.tables ++ drop (nt - 0) t) (take (list_start k) i ++ (o.list ++ drop (list_start k + n - list_start k) (drop (list_start k) i)))) a
      ∙ (λ j. filled_into (of-store j) (of-tables j) (of-list j) u e p k s t i)
      ∙ sym (simp (le-ltb last_list k lk, eq-eqb (length i) others_length long, q))

-- ---- a list buffer that is not there

module _ (l : List ℕ) (u e p k : ℕ) (b : Bool) (s t i : List ℕ) where
  pub no-list : last_list < k → lending reply.Bad s t i ≡ run_call l u e p k b s t i
  unfolding run_call
  no-list h = simp (lt-ltb last_list k h)

  pub no-lists : k ≤ last_list → (length i ≡ others_length → ⊥) → lending reply.Bad s t i ≡ run_call l u e p k b s t i
  unfolding run_call
  no-lists h n = simp (le-ltb last_list k h, ne_eqb (length i) others_length n)

pub ruleset run-calls = (no-list, no-lists, wrote-from, filled-into)

-- ---- the numbers of a line

pub run-known : (l : List ℕ) (b : Bool) (s t i : List ℕ) (m k : Option Numbers) (y : Lending) → m ≡ k → y ≡ run_line l k b s t i → y ≡ run_line l m b s t i
run-known l b s t i m k y q r = r ∙ sym (ap (λ x. run_line l x b s t i) q)
