-- The worked examples hold: one statement over the list. Each is found by computing: answers as users know the state, images on segments. Assumes
-- nothing.
use Rattle.std.specs.Prelude.{◌*◌, ◌≡◌, refl, true, [], ◌∷◌, replicate}
use Rattle.std.proofs.Math.Option.{none, some}
use Rattle.combine.specs.Below.{count_below}
use Rattle.numbers.specs.Numbers.{signed_of}
use Rattle.names.specs.Names.{symbols_of, name_of}
use Rattle.packing.specs.Packing.{put_field, put_bits}
use Rattle.placing.specs.Placing.{stretch_of, offset_of, cell_of, bit_of, held_of, claim_of}
use Rattle.placing.specs.Sizes.{segment_cells, entries, width_of, elements_of}
use Rattle.store.specs.Store.{put_element}
use Rattle.rules.specs.Headings.{filing}
use Rattle.rules.specs.House.{house, fresh_house}
use Rattle.segments.specs.Free.{SegmentRecord, SegmentHouse}
use Rattle.segments.specs.Moves.{is_listed, listed_count, tidy_count}
use Rattle.examples.specs.Holding.{Holds, AllHold}
use Rattle.image.specs.Image.{form1, served}
use Rattle.examples.specs.Examples.{lift7, lift, ten, not_cut, claims, last_claim, appends, own_pointer, saved_fresh, bytes_of_a, makes_file_a, image_with_a, saved_file, printed_fresh, old_image_with_a, printed_file, moved_up, moved_down, given_up, runs_answered, runs_told, starts_at_the_end, bytes_of_b, looks_absent, removes_a, tidies, degrees, worked}
use Rattle.proof_examples.specs.OnSegments.{state_after}
use Rattle.proof_examples.specs.Known.{answers_known, answers-after, gives_after, runs_known, runs_after}
use Rattle.proof_examples.specs.Saved.{image_by, Leads, packs-after, saves-after}
use Rattle.proof_examples.specs.Moved.{reaches_by, moves-down, moves-up, cells_of}
use Rattle.demands.specs.Demands.{AreCells}
use Rattle.combine.specs.Below.{all_below}
use Rattle.proof_examples.specs.Tidied.{answers-tidied}

-- ---- numbers

lift7-holds : Holds lift7
unfolding name_of symbols_of
lift7-holds = refl

lift-holds : Holds lift
unfolding name_of symbols_of
lift-holds = refl

ten-holds : Holds ten
unfolding put_element put_bits put_field cell_of bit_of offset_of elements_of width_of
ten-holds = refl

claims-holds : Holds claims
unfolding held_of claim_of stretch_of elements_of
claims-holds = refl

last-claim-holds : Holds last_claim
unfolding held_of claim_of stretch_of elements_of
last-claim-holds = refl

-- ---- answers

not-cut-holds : Holds not_cut
unfolding answers_known
not-cut-holds = answers-after segment_cells _ _ refl tt refl

appends-holds : Holds appends
unfolding answers_known
appends-holds = answers-after segment_cells _ _ refl tt refl

own-pointer-holds : Holds own_pointer
unfolding answers_known
own-pointer-holds = answers-after segment_cells _ _ refl tt refl

given-up-holds : Holds given_up
unfolding answers_known
given-up-holds = answers-after (segment_cells * 2) _ _ refl tt refl

starts-at-the-end-holds : Holds starts_at_the_end
unfolding answers_known
starts-at-the-end-holds = answers-after (segment_cells * 2) _ _ refl tt refl

looks-absent-holds : Holds looks_absent
unfolding answers_known
looks-absent-holds = answers-after (segment_cells * 2) _ _ refl tt refl

degrees-hold : Holds degrees
unfolding answers_known signed_of
degrees-hold = gives_after segment_cells _ _ refl tt refl

-- ---- runs

runs-answered-holds : Holds runs_answered
unfolding answers_known
runs-answered-holds = answers-after segment_cells _ _ refl tt refl

runs-told-holds : Holds runs_told
unfolding runs_known
runs-told-holds = runs_after segment_cells _ _ refl tt refl

-- ---- saved: fresh with 128 segments

leads-to-fresh : Leads (fresh_house (segment_cells * 128)) [] (fresh_house (segment_cells * 128))
unfolding state_after
leads-to-fresh = record { going = tt; leads = λ s. refl }

packed-fresh : image_by served (fresh_house (segment_cells * 128)) ≡ 0x02100000 ∷ replicate 960 0
unfolding image_by
packed-fresh = refl

saved-fresh-holds : Holds saved_fresh
saved-fresh-holds = saves-after (segment_cells * 128) [] (fresh_house (segment_cells * 128)) _ refl leads-to-fresh packed-fresh

printed-fresh : image_by form1 (fresh_house (segment_cells * 128)) ≡ 0x01100000 ∷ replicate 896 0
unfolding image_by
printed-fresh = refl

printed-fresh-holds : Holds printed_fresh
printed-fresh-holds = packs-after (segment_cells * 128) [] (fresh_house (segment_cells * 128)) _ refl leads-to-fresh form1 printed-fresh

-- ---- and with the private file "a" of user 2, species 5, b = 1, e = 2, segment 0

abbrev file_a : SegmentRecord
file_a = filing (record { owner = 2; name = name_of bytes_of_a; private = true; species = 5; begin = 1; end = 2 }) (0 ∷ [])

abbrev pub house_with_a : SegmentHouse
house_with_a = house 128 (some file_a ∷ replicate 63 none) (replicate entries none)

pub leads-to-a : Leads (fresh_house (segment_cells * 128)) makes_file_a house_with_a
unfolding state_after
leads-to-a = record { going = tt; leads = λ s. refl }

pub packed-a : image_by served house_with_a ≡ image_with_a
unfolding image_by state_after
packed-a = refl

pub saved-file-holds : Holds saved_file
saved-file-holds = saves-after (segment_cells * 128) makes_file_a house_with_a image_with_a refl leads-to-a packed-a

printed-a : image_by form1 house_with_a ≡ old_image_with_a
unfolding image_by state_after
printed-a = refl

printed-file-holds : Holds printed_file
printed-file-holds = packs-after (segment_cells * 128) makes_file_a house_with_a _ refl leads-to-a form1 printed-a

-- ---- moved from form to form

in_reach : reaches_by form1 house_with_a ≡ true
unfolding reaches_by state_after
in_reach = refl

moved-down-holds : Holds moved_down
moved-down-holds = moves-down 128 makes_file_a house_with_a image_with_a old_image_with_a refl leads-to-a refl in_reach saved-file-holds printed-file-holds

image-cells : AreCells image_with_a
unfolding all_below
image-cells = cells_of image_with_a refl

moved-up-holds : Holds moved_up
moved-up-holds = moves-up 128 image_with_a old_image_with_a image-cells moved-down-holds

-- ---- tidied: "b" of user 2 is at place 1, in segment 1

abbrev house_with_b : SegmentHouse
house_with_b =
    house 3 (none ∷ some (filing (record { owner = 2; name = name_of bytes_of_b; private = true; species = 5; begin = 1; end = 2 }) (1 ∷ [])) ∷ replicate 62 none) (replicate entries none)

leads-to-b : Leads (fresh_house (segment_cells * 3)) removes_a house_with_b
unfolding state_after
leads-to-b = record { going = tt; leads = λ s. refl }

one-goes : tidy_count house_with_b ≡ 64
unfolding state_after tidy_count listed_count is_listed count_below
one-goes = refl

tidies-holds : Holds tidies
unfolding answers_known
tidies-holds = answers-tidied (segment_cells * 3) removes_a _ house_with_b refl leads-to-b refl _ _ 64 tt tt refl one-goes refl

-- ---- all

pub worked-hold : AllHold worked
worked-hold =
    (lift7-holds, (lift-holds, (ten-holds, (not-cut-holds, (claims-holds, (last-claim-holds, (appends-holds, (own-pointer-holds, (saved-fresh-holds, (saved-file-holds, (printed-fresh-holds, (printed-file-holds, (moved-up-holds, (moved-down-holds, (given-up-holds, (runs-answered-holds, (runs-told-holds, (starts-at-the-end-holds, (looks-absent-holds, (tidies-holds, (degrees-hold, tt)))))))))))))))))))))
