-- What the code of moves uses of their meaning, where cells are lent from 0 on. Assumes nothing.
use Rattle.std.specs.Prelude.{ℕ, ◌+◌, ◌-◌, ◌≤◌, ◌<◌, ◌≡◌, Bool, true, false, List, ◌++◌, length, take, Option}
use Rattle.std.proofs.Math.Path.{sym, ap}
use Rattle.std.proofs.Common.{◌∙◌, arith, take-take}
use Rattle.std.proofs.Math.Nat.{sub-zero}
use borrow.Author.Tests.{lt-ltb, le-ltb, eq-eqb, ne_eqb}
use Rattle.std.proofs.Math.ListN.{drop}
use Rattle.answers.specs.Said.{Answer, said}
use Rattle.combine.specs.Outcome.{Outcome, outcome_of}
use Rattle.image.specs.Reformed.{up_out, down_out}
use Rattle.history_calls.specs.declared.Reply.{Reply}
use Rattle.history_calls.specs.declared.Reply.TheVariants.{Bad}
use Rattle.history_calls.specs.Told.{reply_of}
use Rattle.history_buffers.specs.Buffers.{lent_of}
use Rattle.history_lent.specs.Rooms.{image_buffer, last_image, others_length, first_image, image_start}
use Rattle.history_lent.specs.Moves.{moving, moved_by, moved_into, move_call, Moving, move_line}
use Rattle.history_words.specs.declared.Numbers.{Numbers}

-- ---- up, or down

module _ (b : Bool) (image buffer : List ℕ) (segments : ℕ) (o : Outcome (List ℕ)) where
  pub moved-up : b ≡ true → o ≡ up_out image buffer segments → o ≡ moved_by b image buffer segments
  unfolding moved_by
  moved-up q e = e ∙ sym (simp q)

  pub moved-down : b ≡ false → o ≡ down_out image buffer segments → o ≡ moved_by b image buffer segments
  unfolding moved_by
  moved-down q e = e ∙ sym (simp q)

pub ruleset moved-either-way = (moved-up, moved-down)

-- ---- images that are not there, and one that is named twice

module _ (l : List ℕ) (b : Bool) (i j segments : ℕ) (x : List ℕ) where
  pub no-image : last_image < i → moving Bad x ≡ move_call l b i j segments x
  unfolding move_call
  no-image h = simp (lt-ltb last_image i h)

  module _ (li : i ≤ last_image) where
    pub no_buffer : last_image < j → moving Bad x ≡ move_call l b i j segments x
    unfolding move_call
    no_buffer h = simp (le-ltb last_image i li, lt-ltb last_image j h)

    module _ (lj : j ≤ last_image) where
      pub named-twice : i ≡ j → moving Bad x ≡ move_call l b i j segments x
      unfolding move_call
      named-twice h = simp (le-ltb last_image i li, le-ltb last_image j lj, eq-eqb i j h)

      pub no-buffers : (i ≡ j → ⊥) → (length x ≡ others_length → ⊥) → moving Bad x ≡ move_call l b i j segments x
      unfolding move_call
      no-buffers d n = simp (le-ltb last_image i li, le-ltb last_image j lj, ne_eqb i j d, ne_eqb (length x) others_length n)

      -- ---- image i copied, and its lent cells moved into image j

      module _ (d : i ≡ j → ⊥) (long : length x ≡ others_length) (n m : ℕ) (en : n ≡ lent_of l (first_image + i) image_buffer) (small : n ≤ image_buffer)
          (em : m ≡ lent_of l (first_image + j) image_buffer) where
        of_image : n - 0 ≡ lent_of l (first_image + i) image_buffer
        of_image = sub-zero n ∙ en

        of-buffer : image_start j + m - image_start j ≡ lent_of l (first_image + j) image_buffer
        of-buffer = let e : image_start j + m - image_start j ≡ m = omega arith in e ∙ em

        copied : (image : List ℕ) → image ≡ take (image_start i + image_buffer - image_start i) (drop (image_start i) x) → take (n - 0) image ≡ take (n - 0) (drop (image_start i) x)
        copied image e =
            let whole : n - 0 ≤ image_start i + image_buffer - image_start i = omega (arith, small) in
            ap (take (n - 0)) e ∙ take-take (n - 0) (image_start i + image_buffer - image_start i) (drop (image_start i) x) whole

        pub moved-into : (image : List ℕ) → image ≡ take (image_start i + image_buffer - image_start i) (drop (image_start i) x) → (a : Answer) (r : Reply) (buffer' : List ℕ) → r ≡ reply_of (said a)
            → outcome_of (said a) buffer' ≡ moved_by b (take (n - 0) image) (take (image_start j + m - image_start j) (drop (image_start j) x)) segments
            → moving r (take (image_start j) x ++ (buffer' ++ drop (image_start j + m - image_start j) (drop (image_start j) x))) ≡ move_call l b i j segments x
        unfolding move_call
        moved-into image e a r buffer' p o =
            ap (λ y. moving y (take (image_start j) x ++ (buffer' ++ drop (image_start j + m - image_start j) (drop (image_start j) x)))) p
            ∙ ap (λ (y : Outcome (List ℕ)). moving (reply_of y.answer) (take (image_start j) x ++ (y.after ++ drop (image_start j + m - image_start j) (drop (image_start j) x)))) (o ∙ ap (λ y. moved_by b y (take (image_start j + m - image_start j) (drop (image_start j) x)) segments) (copied image e))
            ∙ (λ k. moved_into (of_image k) (of-buffer k) b i j segments x)
            ∙ sym (simp (le-ltb last_image i li, le-ltb last_image j lj, ne_eqb i j d, eq-eqb (length x) others_length long))

pub ruleset move-calls = (no-image, no_buffer, named-twice, no-buffers, moved-into)

-- ---- the numbers of a line

pub move-known : (l : List ℕ) (b : Bool) (x : List ℕ) (m k : Option Numbers) (y : Moving) → m ≡ k → y ≡ move_line l k b x → y ≡ move_line l m b x
move-known l b x m k y q r = r ∙ sym (ap (λ z. move_line l z b x) q)
