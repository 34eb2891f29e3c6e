-- Laws of `blotted` (demands/specs/Private.antt): headings, handles and the number of free segments stay. Assumes nothing.
use Rattle.std.specs.Prelude.{ℕ, zero, suc, ◌+◌, ◌-◌, ◌≡◌, refl, Bool, true, false, cond, List, [], ◌∷◌, map, T, eqb, length, get_or, set}
use Rattle.std.proofs.Common.{zero-add, arith, ap, ◌∙◌}
use Rattle.std.proofs.Math.Path.{ap₂}
use Rattle.std.proofs.Math.Option.{Option, none, some}
use Rattle.combine.specs.Lists.{total}
use Rattle.combine.specs.Laws.Tests.{true_of, eqb-eq}
use Rattle.placing.specs.Sizes.{user_of}
use Rattle.rules.specs.Headings.{Open, head_of, handle_of, filing, opening}
use Rattle.rules.specs.Readable.{may_read}
use Rattle.model.specs.Model.{File, Body, body, Model, held_by, owned_by, free}
use Rattle.rules.specs.Laws.Readable.{may_read_at}
use Rattle.demands.specs.Private.{blot_file, blot_opening, blot_openings, blotted}

module _ (u : ℕ) where
  -- ---- what the user may see stays whole

  pub file-whole : (f : Option File) → T (may_read_at u (head_of f)) → blot_file u f ≡ f
  file-whole none t = refl
  file-whole (some f) t = ap {B = Option File} some (ap (λ (b : Bool). cond b f (filing f.head [])) (true_of (may_read u f.head) t))

  pub opening-whole : (i : ℕ) (x : Option (Open Body)) → user_of i ≡ u → blot_opening u i x ≡ x
  opening-whole i none q = refl
  opening-whole i (some x) q = ap {B = Option (Open Body)} some (ap (λ (b : Bool). cond b x (opening x.handle (body [] x.content.shared))) (eqb-eq (user_of i) u q))

  -- ---- headings and handles

  pub heads-stay : (rs : List (Option File)) → map head_of (map (blot_file u) rs) ≡ map head_of rs
  heads-stay [] = refl
  heads-stay (r ∷ rs) = λ i. head r i ∷ heads-stay rs i
    where
      head : (r : Option File) → head_of (blot_file u r) ≡ head_of r
      head none = refl
      head (some r) = go (may_read u r.head)
        where
          go : (b : Bool) → head_of (some (cond b r (filing r.head []))) ≡ some r.head
          go true = refl
          go false = refl

  handle-stays : (i : ℕ) (x : Option (Open Body)) → handle_of (blot_opening u i x) ≡ handle_of x
  handle-stays i none = refl
  handle-stays i (some x) = go (eqb (user_of i) u)
    where
      go : (b : Bool) → handle_of (some (cond b x (opening x.handle (body [] x.content.shared)))) ≡ some x.handle
      go true = refl
      go false = refl

  pub handles-stay : (i : ℕ) (xs : List (Option (Open Body))) → map handle_of (blot_openings u i xs) ≡ map handle_of xs
  handles-stay i [] = refl
  handles-stay i (x ∷ xs) = λ k. handle-stays i x k ∷ handles-stay (suc i) xs k

  -- ---- free segments

  held_stays : (rs : List (Option File)) → total held_by (map (blot_file u) rs) ≡ total held_by rs
  held_stays [] = refl
  held_stays (r ∷ rs) = ap₂ (λ (a b : ℕ). a + b) (held r) (held_stays rs)
    where
      held : (r : Option File) → held_by (blot_file u r) ≡ held_by r
      held none = refl
      held (some r) = go (may_read u r.head)
        where
          go : (b : Bool) → held_by (some (cond b r (filing r.head []))) ≡ held_by (some r)
          go true = refl
          go false = refl

  owned-stays : (i : ℕ) (xs : List (Option (Open Body))) → total owned_by (blot_openings u i xs) ≡ total owned_by xs
  owned-stays i [] = refl
  owned-stays i (x ∷ xs) = ap₂ (λ (a b : ℕ). a + b) (owned x) (owned-stays (suc i) xs)
    where
      owned : (x : Option (Open Body)) → owned_by (blot_opening u i x) ≡ owned_by x
      owned none = refl
      owned (some x) = go (eqb (user_of i) u)
        where
          go : (b : Bool) → owned_by (some (cond b x (opening x.handle (body [] x.content.shared)))) ≡ owned_by (some x)
          go true = refl
          go false = refl

  pub free_stays : (m : Model) → free (blotted u m).house ≡ free m.house
  unfolding free
  free_stays m = ap₂ (λ (a b : ℕ). m.house.segments - (a + b)) (held_stays m.house.records) (owned-stays 0 m.house.openings)

  -- ---- one entry

  pub openings-length : (i : ℕ) (xs : List (Option (Open Body))) → length (blot_openings u i xs) ≡ length xs
  openings-length i [] = refl
  openings-length i (x ∷ xs) = ap suc (openings-length (suc i) xs)

  from_at : (j : ℕ) (xs : List (Option (Open Body))) (i : ℕ) → get_or (blot_openings u j xs) i none ≡ blot_opening u (j + i) (get_or xs i none)
  from_at j [] i = refl
  from_at j (x ∷ xs) zero = ap (λ (k : ℕ). blot_opening u k x) (omega arith)
  from_at j (x ∷ xs) (suc i) = from_at (suc j) xs i ∙ ap (λ (k : ℕ). blot_opening u k (get_or xs i none)) (omega arith)

  from-set : (j : ℕ) (xs : List (Option (Open Body))) (i : ℕ) (y : Option (Open Body)) → blot_openings u j (set xs i y) ≡ set (blot_openings u j xs) i (blot_opening u (j + i) y)
  from-set j [] i y = refl
  from-set j (x ∷ xs) zero y = ap (λ (k : ℕ). blot_opening u k y ∷ blot_openings u (suc j) xs) (omega arith)
  from-set j (x ∷ xs) (suc i) y =
      ap (λ (l : List (Option (Open Body))). blot_opening u j x ∷ l)
      (from-set (suc j) xs i y ∙ ap (λ (k : ℕ). set (blot_openings u (suc j) xs) i (blot_opening u k y)) (omega arith))

  pub opening-at : (xs : List (Option (Open Body))) (i : ℕ) → get_or (blot_openings u 0 xs) i none ≡ blot_opening u i (get_or xs i none)
  opening-at xs i = from_at 0 xs i ∙ ap (λ (k : ℕ). blot_opening u k (get_or xs i none)) (zero-add i)

  pub opening-set : (xs : List (Option (Open Body))) (i : ℕ) (y : Option (Open Body)) → blot_openings u 0 (set xs i y) ≡ set (blot_openings u 0 xs) i (blot_opening u i y)
  opening-set xs i y = from-set 0 xs i y ∙ ap (λ (k : ℕ). set (blot_openings u 0 xs) i (blot_opening u k y)) (zero-add i)
