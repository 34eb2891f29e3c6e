-- The landlord's own request in two houses where he sees the same: the same refusal, or effects that are the same but for places; 9 and 17 are
-- excepted. Assumes nothing.
use Prim.Native.Nat.{ℕ, ◌<◌}
use Rattle.std.specs.Prelude.{◌≡◌, Bool, true, false, not, ◌&&◌, ◌||◌, cond, List, map, leb, eqb, length, get_or}
use Rattle.std.proofs.Math.Path.{refl, ap, subst}
use Rattle.std.proofs.Common.{sym, ap₂, ◌∙◌}
use Rattle.std.proofs.Math.Option.{Option, none, some}
use Rattle.std.proofs.Math.Dec.{T, eqb_refl, nleb→lt}
use Rattle.std.proofs.lemmas.List.{length-map}
use Rattle.std.proofs.Math.ListN.{get_or-map}
use Rattle.combine.specs.Laws.Below.{bool-ext}
use Rattle.combine.specs.Lists.{any}
use Rattle.names.specs.Names.{name_of, is_scratch}
use Rattle.rules.specs.Calls.{Way, new, work, read, Request, opens, closes, abandons, uses}
use Rattle.rules.specs.Readable.{may_read}
use Rattle.rules.specs.Laws.Readable.{may_read_at}
use Rattle.rules.proofs.Laws.Readable.{looked-up}
use Rattle.rules.specs.Laws.Acts.{placed, SameUse, acting-same}
use Rattle.rules.specs.Headings.{Heading, Open, head_of, passes, is_some}
use Rattle.rules.specs.Effects.{Effect, ended, filed, used, Use, Others}
use Rattle.rules.specs.Access.{acting}
use Rattle.rules.specs.Rules.{is_own, is_public, look_up, new_handle, open_new, busy, open_record, open_old, open_way, headed, without, place_for, vanish, close_rule}
use Rattle.rules.specs.House.{others_of}
use Rattle.rules.specs.Levels.{ruled, or_blank}
use Rattle.segments.specs.Laws.Sound.{Single}
use Rattle.model.specs.Model.{File, Body, Files, model_level}
use Rattle.combine.specs.Verdict.{refused}
use Rattle.combine.specs.Laws.SameBut.{SameBut, keep, skip, but-on_done}
use Rattle.combine.specs.Laws.Tests.{true_of, or-second}
use Rattle.combine.specs.Laws.Replaced.{first-where, place-below}
use Rattle.proof_neighbours.specs.Neighbours.{hinders}
use Rattle.proof_neighbours.specs.Sees.{found, SamePlace, SeesSame}
use Rattle.proof_neighbours.specs.LookUp.{look-up-same, found-any, any-but}
use Rattle.proof_neighbours.proofs.Busy.{Known, opened-there}
use Rattle.proof_neighbours.proofs.Refiled.{SeenOr, Spot}
use Rattle.proof_neighbours.proofs.Twins.{sees-sym, sat, Twin, news, olds, ends, frees, files, acts}

-- neither 9 nor 17
abbrev pub Unhindered : ℕ → Type 0
Unhindered n = T (not (hinders (refused n)))

module _ (a : ℕ) (h k : Files) (s : SeesSame a h k) (wh : Known a h) (wk : Known a k) where
  abbrev rs : List (Option File)
  rs = h.records

  abbrev qs : List (Option File)
  qs = k.records

  abbrev here : Others
  here = others_of (model_level.room h) h.openings

  abbrev there : Others
  there = others_of (model_level.room k) k.openings

  -- ---- opening

  -- 14 is the same
  busy-same : (w : Bool) (f : File) → T (may_read a f.head) → (p q : ℕ) → get_or rs p none ≡ some f → get_or qs q none ≡ some f → busy w p here ≡ busy w q there
  busy-same true f t p q ep eq = bool-ext (busy true p here) (busy true q there)
      (λ e. true_of (busy true q there) (opened-there a h k s wh wk f t p q ep eq (λ b. true) (rw e tt)))
      (λ e. true_of (busy true p here) (opened-there a k h (sees-sym a h k s) wk wh f t q p eq ep (λ b. true) (rw e tt)))
  busy-same false f t p q ep eq = bool-ext (busy false p here) (busy false q there)
      (λ e. true_of (busy false q there) (opened-there a h k s wh wk f t p q ep eq (λ b. b) (rw e tt)))
      (λ e. true_of (busy false p here) (opened-there a k h (sees-sym a h k s) wk wh f t q p eq ep (λ b. b) (rw e tt)))

  module _ (x : Open Body) (q : Option ℕ) where
    abbrev Twins : Effect → Effect → Type 0
    Twins f g = Twin a rs qs x q f g

    record_same : (w : Bool) (m n : ℕ) (o : Option File) → get_or rs m none ≡ o → get_or qs n none ≡ o → SeenOr a o
        → SameBut Unhindered Unhindered Twins (open_record w a m (head_of o) here) (open_record w a n (head_of o) there)
    record_same w m n none em en t = λ c d. refl
    record_same w m n (some f) em en t =
        keep Unhindered Unhindered Twins 13 _ _ _ _ refl (λ h13. keep Unhindered Unhindered Twins 14 _ _ _ _ (busy-same w f t m n em en) (λ h14. olds m n w f t em en))

    old-same : (w : Bool) (n : List ℕ) → SameBut Unhindered Unhindered Twins (open_old w a n (map head_of rs) here) (open_old w a n (map head_of qs) there)
    unfolding open_old
    old-same w n =
        keep Unhindered Unhindered Twins 15 _ _ _ _ refl (λ h15.
        subst (λ (z : Option Heading). SameBut Unhindered Unhindered Twins (open_record w a m z here) (open_record w a l (get_or (map head_of qs) l none) there)) (sym (get_or-map head_of rs m none))
        (subst (λ (z : Option Heading). SameBut Unhindered Unhindered Twins (open_record w a m (head_of (get_or rs m none)) here) (open_record w a l z there)) (sym (get_or-map head_of qs l none ∙ ap head_of el))
        (record_same w m l (get_or rs m none) refl el (subst (λ (z : Option Heading). T (may_read_at a z)) (get_or-map head_of rs m none) (looked-up a n (map head_of rs))))))
      where
        m : ℕ
        m = look_up a n (map head_of rs)

        l : ℕ
        l = look_up a n (map head_of qs)

        el : get_or qs l none ≡ get_or rs m none
        el = sym (look-up-same a h k s n)

    new-same : (sp : ℕ) → SameBut Unhindered Unhindered Twins (open_new sp) (open_new sp)
    unfolding open_new
    new-same sp = keep Unhindered Unhindered Twins 19 _ _ _ _ refl (λ h19. news (new_handle sp) refl)

    way_same : (w : Way) → SameBut Unhindered Unhindered Twins (open_way w a (map head_of rs) here) (open_way w a (map head_of qs) there)
    way_same (new sp) = new-same sp
    way_same (work bytes) = old-same true (name_of bytes)
    way_same (read bytes) = old-same false (name_of bytes)

  -- ---- closing

  -- another record passes
  others_same : (f : Heading → Bool) → found f rs ≡ found f qs → Single (passes f) (map head_of rs) → Single (passes f) (map head_of qs)
      → (m n : Option ℕ) → SamePlace a rs qs m n → any (passes f) (without (map head_of rs) m) ≡ any (passes f) (without (map head_of qs) n)
  others_same f same sh sk none none t = sym (found-any f rs) ∙ ap is_some same ∙ found-any f qs
  others_same f same sh sk none (some n) t = absurd t
  others_same f same sh sk (some m) none t = absurd t
  others_same f same sh sk (some m) (some n) t =
      any-but f (map head_of rs) sh m
      ∙ ap₂ (λ (b : Bool) (o : Option Heading). b && not (passes f o)) (sym (found-any f rs) ∙ ap is_some same ∙ found-any f qs) (head-at rs m t.2 ∙ sym (head-at qs n t.3))
      ∙ sym (any-but f (map head_of qs) sk n)
    where
      head-at : (l : List (Option File)) (j : ℕ) → get_or l j none ≡ some t.0 → get_or (map head_of l) j none ≡ some t.0.head
      head-at l j e = get_or-map head_of l j none ∙ ap head_of e

  free-at : (l : List (Option File)) → T (not (leb (length (map head_of l)) (place_for (map head_of l) none)))
      → (place_for (map head_of l) none < length l) × (get_or l (place_for (map head_of l) none) none ≡ none)
  free-at l t =
      let p = place_for (map head_of l) none in
      let b : place_for (map head_of l) none < length (map head_of l) = nleb→lt (length (map head_of l)) (place_for (map head_of l) none) t in (
        rw (length-map l head_of) at b,
        nothing (get_or l p none) (subst (λ (y : Option Heading). T (not (is_some y))) (get_or-map head_of l p none) (first-where (λ r. not (is_some r)) (map head_of l) none b)),
      )
    where
      nothing : (y : Option File) → T (not (is_some (head_of y))) → y ≡ none
      nothing none t = refl
      nothing (some y) t = absurd t

  spot_of : (m n : Option ℕ) → SamePlace a rs qs m n → T (not (leb (length (map head_of rs)) (place_for (map head_of rs) m)))
      → T (not (leb (length (map head_of qs)) (place_for (map head_of qs) n))) → Spot a rs qs (place_for (map head_of rs) m) (place_for (map head_of qs) n)
  spot_of none none t u v =
      let x = free-at rs u in
      let y = free-at qs v in
      record { filed = none; here = x.1; there = y.1; sees = tt; within = x.0; inside = y.0 }
  spot_of none (some n) t u v = absurd t
  spot_of (some m) none t u v = absurd t
  spot_of (some m) (some n) t u v =
      record { filed = some t.0; here = t.2; there = t.3; sees = t.1; within = place-below rs m t.0 t.2; inside = place-below qs n t.0 t.3 }

  module _ (x : Open Body) (q : Option ℕ) (same : SamePlace a rs qs x.handle.place q) where
    vanish-same : (m n : Option ℕ) → SamePlace a rs qs m n → Twin a rs qs x q (vanish m) (vanish n)
    vanish-same none none t = ends
    vanish-same none (some n) t = absurd t
    vanish-same (some m) none t = absurd t
    vanish-same (some m) (some n) t =
        frees m n (record { filed = some t.0; here = t.2; there = t.3; sees = t.1; within = place-below rs m t.0 t.2; inside = place-below qs n t.0 t.3 })

    close-same : (b : Bool) → SameBut Unhindered Unhindered (Twin a rs qs x q) (close_rule b a (map head_of rs) x.handle) (close_rule b a (map head_of qs) (placed x.handle q))
    unfolding close_rule headed
    close-same b =
        keep Unhindered Unhindered Twins' 18 _ _ _ _ refl (λ h18. keep Unhindered Unhindered Twins' 16 _ _ _ _ same16 (λ h16. skip Unhindered Unhindered Twins' 17 _ _ _ _ (λ k. absurd k) (λ t k. absurd k) (λ h17 k17. go files' h17 k17)))
      where
        Twins' : Effect → Effect → Type 0
        Twins' = Twin a rs qs x q

        m : Option ℕ
        m = x.handle.place

        name : List ℕ
        name = x.handle.name

        files' : Bool
        files' = x.handle.permit && not (is_scratch name)

        same16 : (files' && (any (passes (is_own a name)) (without (map head_of rs) m) || b && any (passes (is_public name)) (without (map head_of rs) m)))
            ≡ (files' && (any (passes (is_own a name)) (without (map head_of qs) q) || b && any (passes (is_public name)) (without (map head_of qs) q)))
        same16 = λ i. files' && (others_same (is_own a name) (s.own name) (wh.own name) (wk.own name) m q same i
            || b && others_same (is_public name) (s.public name) (wh.public name) (wk.public name) m q same i)

        go : (f : Bool) → T (not (f && leb (length (map head_of rs)) (place_for (map head_of rs) m))) → T (not (f && leb (length (map head_of qs)) (place_for (map head_of qs) q)))
            → Twin a rs qs x q (cond f (filed (place_for (map head_of rs) m) (headed b a x.handle)) (cond x.handle.permit (vanish m) ended))
            (cond f (filed (place_for (map head_of qs) q) (headed b a (placed x.handle q))) (cond x.handle.permit (vanish q) ended))
        go true t u = files (place_for (map head_of rs) m) (place_for (map head_of qs) q) (headed b a x.handle)
            (or-second (not (not b)) (eqb a a) (eqb_refl a)) (spot_of m q same t u)
        go false t u = end x.handle.permit
          where
            end : (w : Bool) → Twin a rs qs x q (cond w (vanish m) ended) (cond w (vanish q) ended)
            end true = vanish-same m q same
            end false = ends

    -- at an open entry
    pub open-same : (r : Request) → SameBut Unhindered Unhindered (Twin a rs qs x q) (ruled model_level r a h (some x)) (ruled model_level r a k (some (sat x q)))
    open-same (opens w) = λ c d. refl
    open-same (closes b) = close-same b
    open-same abandons = ends
    open-same (uses act) =
        but-on_done Unhindered Unhindered (SameUse x.handle q) (Twin a rs qs x q) used used (acting act takes (model_level.room h) x.handle) (acting act takes (model_level.room k) (placed x.handle q))
        (λ u v t. subst (λ (y : Use). Twin a rs qs x q (used u) (used y)) (sym t.1) (acts u t.0))
        (acting-same Unhindered Unhindered x.handle q takes (model_level.room h) (model_level.room k) (λ t. t) (λ t. absurd t) act)
      where
        takes : ℕ → Bool
        takes = model_level.takes h x

  -- at a closed one
  pub closed_same : (r : Request) → SameBut Unhindered Unhindered (Twin a rs qs (or_blank model_level none) none) (ruled model_level r a h none) (ruled model_level r a k none)
  closed_same (opens w) = way_same (or_blank model_level none) none w
  closed_same (closes b) = λ c d. refl
  closed_same abandons = λ c d. refl
  closed_same (uses act) = λ c d. refl
