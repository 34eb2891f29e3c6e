-- Laws of rules/specs/Readable.antt: what look-up finds the user may read; what he may not read looks absent, and nothing else does. Assumes nothing.
use Rattle.std.specs.Prelude.{ℕ, ◌≤◌, ◌<◌, ◌≡◌, refl, Bool, true, false, not, ◌&&◌, List, map, eqb, ltb, length}
use Rattle.std.proofs.Common.{sym, ◌∙◌, ⊎_elim, T_not, ltb-true}
use Rattle.std.proofs.Math.Path.{ap, subst}
use Rattle.std.proofs.Math.Bool.{cond}
use Rattle.std.proofs.Math.Option.{Option, none, some}
use Rattle.std.proofs.Math.Dec.{T, not_T}
use Rattle.std.proofs.Math.ListN.{get_or, get_or-map, get_or-eq_default}
use Rattle.std.proofs.lemmas.List.{length-map}
use Rattle.combine.specs.Lists.{any, first_where}
use Rattle.combine.specs.Verdict.{refuse◌when◌else◌}
use Rattle.combine.specs.Laws.Numbers.{le-or-lt}
use Rattle.combine.specs.Laws.Tests.{by-test, true_of, false_of, or_split, or-first, or-second, and_first, and_second, and_intro}
use Rattle.combine.specs.Laws.Verdict.{Refuses, refuses}
use Rattle.combine.specs.Laws.Searches.{any-first, first-map}
use Rattle.combine.specs.Laws.Each.{any_where}
use Rattle.combine.specs.Laws.Sums.{any_at, not-any}
use Rattle.names.specs.Names.{name_of, is_scratch}
use Rattle.combine.specs.Laws.Replaced.{first-where}
use Rattle.rules.specs.Calls.{Way, new, work, read}
use Rattle.rules.specs.Headings.{Heading, passes, is_some}
use Rattle.rules.specs.Effects.{Others}
use Rattle.rules.specs.Rules.{has_name, is_own, is_public, look_up, open_new, open_record, open_old, open_way}
use Rattle.rules.specs.Readable.{may_read, only, asks_for}
use Rattle.rules.specs.Laws.Readable.{may_read_at, NoneThere}

own_read : (u : ℕ) (n : List ℕ) (x : Option Heading) → T (passes (is_own u n) x) → T (may_read_at u x)
own_read u n none t = tt
own_read u n (some r) t = or-second (not r.private) (eqb r.owner u) (and_first (eqb r.owner u) _ t)

public-read : (u : ℕ) (n : List ℕ) (x : Option Heading) → T (passes (is_public n) x) → T (may_read_at u x)
public-read u n none t = tt
public-read u n (some r) t = or-first (not r.private) (eqb r.owner u) (and_first (not r.private) (has_name n r) t)

pub look-up-read : (u : ℕ) (n : List ℕ) (rs : List (Option Heading)) → look_up u n rs < length rs → T (may_read_at u (get_or rs (look_up u n rs) none))
unfolding look_up
look-up-read u n rs = go (ltb own (length rs))
  where
    own : ℕ
    own = first_where (passes (is_own u n)) rs

    public : ℕ
    public = first_where (passes (is_public n)) rs

    go : (b : Bool) → cond b own public < length rs → T (may_read_at u (get_or rs (cond b own public) none))
    go true l = own_read u n (get_or rs own none) (first-where (passes (is_own u n)) rs none l)
    go false l = public-read u n (get_or rs public none) (first-where (passes (is_public n)) rs none l)

-- at the place that look-up gives there is nothing, or what he may read
pub looked-up : (u : ℕ) (n : List ℕ) (rs : List (Option Heading)) → T (may_read_at u (get_or rs (look_up u n rs) none))
looked-up u n rs = ⊎_elim (λ l. subst (λ (x : Option Heading). T (may_read_at u x)) (sym (nothing l)) tt) (look-up-read u n rs) (le-or-lt (length rs) (look_up u n rs))
  where
    nothing : length rs ≤ look_up u n rs → get_or rs (look_up u n rs) none ≡ none
    nothing l = get_or-eq_default rs none l

-- ---- the catalogue from which all private files of others are taken away

-- what passes is there as before
pub only_kept : {A : Type 0} (f : A → Bool) (a : A) → T (f a) → only f (some a) ≡ some a
only_kept f a t = go (f a) t
  where
    go : (b : Bool) → T b → cond b (some a) none ≡ some a
    go true t = refl
    go false t = absurd t

kept : (u : ℕ) (x : Option Heading) → T (may_read_at u x) → only (may_read u) x ≡ x
kept u none t = refl
kept u (some r) t = only_kept (may_read u) r t

-- a search for what he may read is not changed
search-same : (u : ℕ) (f : Heading → Bool) → ((x : Option Heading) → T (passes f x) → T (may_read_at u x)) → (x : Option Heading) → passes f (only (may_read u) x) ≡ passes f x
search-same u f h none = refl
search-same u f h (some r) = go (may_read u r) (h (some r))
  where
    go : (b : Bool) → (T (f r) → T b) → passes f (cond b (some r) none) ≡ f r
    go true k = refl
    go false k = by-test (f r) (λ t. absurd (k t)) (λ t. sym (false_of (f r) t))

module _ (u : ℕ) (n : List ℕ) (rs : List (Option Heading)) where
  look-up-same : look_up u n (map (only (may_read u)) rs) ≡ look_up u n rs
  unfolding look_up
  look-up-same =
      let own = first-map (passes (is_own u n)) (passes (is_own u n)) (only (may_read u)) (search-same u (is_own u n) (own_read u n)) rs in
      let public = first-map (passes (is_public n)) (passes (is_public n)) (only (may_read u)) (search-same u (is_public n) (public-read u n)) rs in
      λ i. cond (ltb (own i) (length-map rs (only (may_read u)) i)) (own i) (public i)

  found-same : get_or (map (only (may_read u)) rs) (look_up u n rs) none ≡ get_or rs (look_up u n rs) none
  found-same =
      get_or-map (only (may_read u)) rs (look_up u n rs) none ∙ kept u (get_or rs (look_up u n rs) none) (looked-up u n rs)

  old-absent : (w : Bool) (o : Others) → open_old w u n (map (only (may_read u)) rs) o ≡ open_old w u n rs o
  unfolding open_old
  old-absent w o =
      let found = ap (λ (p : ℕ). get_or (map (only (may_read u)) rs) p none) look-up-same ∙ found-same in
      λ i. refuse 15 when is_scratch n else open_record w u (look-up-same i) (found i) o

-- "A file that is another's and private must look absent": the verdict on an opening is the same without such files
pub way-absent : (w : Way) (u : ℕ) (rs : List (Option Heading)) (o : Others) → open_way w u (map (only (may_read u)) rs) o ≡ open_way w u rs o
way-absent (new s) u rs o = refl
way-absent (work bytes) u rs o = old-absent u (name_of bytes) rs true o
way-absent (read bytes) u rs o = old-absent u (name_of bytes) rs false o

-- ---- nothing else looks absent

passes-some : (f : Heading → Bool) (x : Option Heading) → T (passes f x) → T (is_some x)
passes-some f none t = t
passes-some f (some r) t = tt

search-there : (f : Heading → Bool) (rs : List (Option Heading)) → T (any (passes f) rs) → T (is_some (get_or rs (first_where (passes f) rs) none))
search-there f rs t =
    let within = ltb-true (first_where (passes f) rs) (length rs) (sym (any-first (passes f) rs) ∙ true_of (any (passes f) rs) t) in
    passes-some f (get_or rs (first_where (passes f) rs) none) (first-where (passes f) rs none within)

-- what he may read and is not his own is public
others-public : (u : ℕ) (n : List ℕ) (x : Option Heading) → T (not (passes (is_own u n) x)) → T (passes (λ r. may_read u r && has_name n r) x) → T (passes (is_public n) x)
others-public u n none o t = t
others-public u n (some r) o t =
    let named = and_second (may_read u r) (has_name n r) t in
    or_split (not r.private) (eqb r.owner u) (and_first (may_read u r) (has_name n r) t)
    (λ p. and_intro (not r.private) (has_name n r) p named)
    (λ w. absurd (T_not (is_own u n r) o (and_intro (eqb r.owner u) (has_name n r) w named)))

module _ (u : ℕ) (n : List ℕ) (rs : List (Option Heading)) where
  look-up-by : (b : Bool) → any (passes (is_own u n)) rs ≡ b → look_up u n rs ≡ cond b (first_where (passes (is_own u n)) rs) (first_where (passes (is_public n)) rs)
  unfolding look_up
  look-up-by b e = ap (λ (c : Bool). cond c (first_where (passes (is_own u n)) rs) (first_where (passes (is_public n)) rs)) (sym (any-first (passes (is_own u n)) rs) ∙ e)

  abbrev Found : ℕ → Type 0
  Found p = T (is_some (get_or rs p none))

  look-up-there : T (any (passes (λ r. may_read u r && has_name n r)) rs) → Found (look_up u n rs)
  look-up-there t = by-test (any (passes (is_own u n)) rs)
      (λ o. subst Found (sym (look-up-by true (true_of (any (passes (is_own u n)) rs) o))) (search-there (is_own u n) rs o))
      (λ o. subst Found (sym (look-up-by false (false_of (any (passes (is_own u n)) rs) o))) (search-there (is_public n) rs (public o)))
    where
      public : T (not (any (passes (is_own u n)) rs)) → T (any (passes (is_public n)) rs)
      public o =
          let at = any_where (passes (λ r. may_read u r && has_name n r)) rs none t in
          any_at (passes (is_public n)) rs at.0 none tt (others-public u n (get_or rs at.0 none) (not-any (passes (is_own u n)) rs at.0 none tt o) at.1)

  abbrev Hides : ℕ → Type 0
  Hides k = T (eqb k 11) → NoneThere u (has_name n) rs

  old-hides : (w : Bool) (o : Others) → Refuses Hides (open_old w u n rs o)
  unfolding open_old
  old-hides w o = refuses Hides 15 _ _ (λ t. absurd t) (found (get_or rs (look_up u n rs) none) refl)
    where
      found : (x : Option Heading) → get_or rs (look_up u n rs) none ≡ x → Refuses Hides (open_record w u (look_up u n rs) x o)
      found none e = λ t. not_T (any (passes (λ r. may_read u r && has_name n r)) rs) (λ s. subst (λ (x : Option Heading). T (is_some x)) e (look-up-there s))
      found (some r) e = refuses Hides 13 _ _ (λ t. absurd t) (refuses Hides 14 _ _ (λ t. absurd t) tt)

-- where an opening is refused with 11, no record that the user may read has the name
pub way-hides : (w : Way) (u : ℕ) (rs : List (Option Heading)) (o : Others) → Refuses (λ k. T (eqb k 11) → NoneThere u (asks_for w) rs) (open_way w u rs o)
unfolding open_new
way-hides (new s) u rs o = refuses _ 19 _ _ (λ t. absurd t) tt
way-hides (work bytes) u rs o = old-hides u (name_of bytes) rs true o
way-hides (read bytes) u rs o = old-hides u (name_of bytes) rs false o
