-- Twin effects, performed: the same answer, and the landlord sees the same afterwards. Assumes nothing.
use Rattle.std.specs.Prelude.{ℕ, ◌≤◌, ◌≡◌, refl, Bool, true, List, T, get_or, replicate}
use Rattle.std.proofs.Common.{sym, ap, ◌∙◌, subst}
use Rattle.std.proofs.Math.Option.{Option, none, some}
use Rattle.placing.specs.Sizes.{greatest_user, greatest_entry, entry_of}
use Rattle.rules.specs.Readable.{may_read}
use Rattle.rules.specs.Headings.{Handle, Open, filing, opening, holds}
use Rattle.rules.specs.Effects.{Deed, stays, first_leaves, last_leaves, stores, Delivered, plain, element, Effect}
use Rattle.rules.specs.Rules.{opened_as}
use Rattle.rules.specs.House.{changed}
use Rattle.rules.specs.Levels.{perform}
use Rattle.model.specs.Model.{File, Body, body, Files, model_level, body_after, elements_of_file, delivered_by_model}
use Rattle.proof_neighbours.specs.Sees.{SamePlace, SameOpening, SeesSame}
use Rattle.proof_neighbours.proofs.Busy.{Known}
use Rattle.proof_neighbours.proofs.Refiled.{entry-same, refiled-same}
use Rattle.rules.specs.Laws.Acts.{placed}
use Rattle.proof_neighbours.proofs.Twins.{sat, Twin, news, olds, ends, frees, files, acts}

body_same : (x : Open Body) (q : Option ℕ) (n : Handle) (d : Deed) → body_after x n d ≡ body_after (sat x q) (placed n q) d
body_same x q n stays = refl
body_same x q n first_leaves = refl
body_same x q n last_leaves = refl
body_same x q n (stores v m) = refl

said_same : (x : Open Body) (q : Option ℕ) (t : Delivered) → delivered_by_model x t ≡ delivered_by_model (sat x q) t
said_same x q (plain n) = refl
said_same x q (element v) = refl

shown-same : (a : ℕ) (rs qs : List (Option File)) (m n : ℕ) (w : Bool) (f : File) → T (may_read a f.head) → get_or rs m none ≡ some f → get_or qs n none ≡ some f
    → SameOpening a rs qs (opening (opened_as w m f.head) (model_level.shown (opened_as w m f.head) (get_or rs m none)))
    (opening (opened_as w n f.head) (model_level.shown (opened_as w n f.head) (get_or qs n none)))
unfolding opened_as
shown-same a rs qs m n w f t em en = record {
  place = (f, t, em, en);
  permit = refl;
  name = refl;
  species = refl;
  pointers = refl;
  content = ap (λ (o : Option File). body (elements_of_file o) (replicate (holds (opened_as w m f.head)) true)) (em ∙ sym en);
}

module _ (a : ℕ) (h k : Files) (s : SeesSame a h k) (wh : Known a h) (wk : Known a k) (e : ℕ) (le : e ≤ greatest_entry) (la : a ≤ greatest_user) where
  abbrev i : ℕ
  i = entry_of a e

  pub performed-same : (x : Open Body) (q : Option ℕ) → SamePlace a h.records k.records x.handle.place q → (f g : Effect) → Twin a h.records k.records x q f g
      → ((perform model_level h x f).answer ≡ (perform model_level k (sat x q) g).answer)
      × (Known a (changed h i (perform model_level h x f)) → Known a (changed k i (perform model_level k (sat x q) g))
      → SeesSame a (changed h i (perform model_level h x f)) (changed k i (perform model_level k (sat x q) g)))
  performed-same x q same f g (news n en) = (
    refl,
    λ zh zk. entry-same a h k s wh wk e le la (some _) (some _)
        (record { place = subst (λ (m : Option ℕ). SamePlace a h.records k.records m m) (sym en) tt; permit = refl; name = refl; species = refl; pointers = refl; content = refl }),
  )
  performed-same x q same f g (olds m n w o t em en) =
      (refl, λ zh zk. entry-same a h k s wh wk e le la (some _) (some _) (shown-same a h.records k.records m n w o t em en))
  performed-same x q same f g ends = (refl, λ zh zk. entry-same a h k s wh wk e le la none none tt)
  performed-same x q same f g (frees m n spot) = (refl, λ zh zk. refiled-same a h k s wh wk e le la m n none spot tt zh zk)
  performed-same x q same f g (files m n r t spot) = (refl, λ zh zk. refiled-same a h k s wh wk e le la m n (some (filing r x.content.elements)) spot t zh zk)
  performed-same x q same f g (acts u eu) = (
    said_same x q u.told,
    λ zh zk. entry-same a h k s wh wk e le la (some _) (some _)
        (record {
          place = subst (λ (m : Option ℕ). SamePlace a h.records k.records m q) (sym eu) same;
          permit = refl;
          name = refl;
          species = refl;
          pointers = refl;
          content = body_same x q u.handle u.deed;
        }),
  )
