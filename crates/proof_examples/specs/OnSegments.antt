-- Calls one after another on a store and what its tables say, beside the same calls on cells. Assumes nothing.
use Rattle.std.specs.Prelude.{◌≡◌, refl, Bool, true, not, ◌&&◌, ◌||◌, List, [], ◌∷◌, T}
use Rattle.std.proofs.Common.{ap, ◌∙◌}
use Rattle.combine.specs.First.{first_below}
use Rattle.combine.specs.Verdict.{refuse◌when◌else◌}
use Rattle.combine.specs.Outcome.{settle}
use Rattle.combine.specs.Run.{run_over}
use Rattle.names.specs.Names.{symbols_of, name_of, scratch_name, is_scratch}
use Rattle.packing.specs.Packing.{field, put_field, take_bits, put_bits}
use Rattle.placing.specs.Placing.{stretch_of, offset_of, cell_of, bit_of, held_of, slot_of}
use Rattle.placing.specs.Sizes.{width_of, elements_of}
use Rattle.store.specs.Store.{element_at, put_element, zeroed, copied, segment_of}
use Rattle.rules.specs.Calls.{Call, starts, asks, arranges, on, runs}
use Rattle.rules.specs.Access.{write_rule, next_rule, rename_rule}
use Rattle.rules.specs.Rules.{look_up, open_new, opened_as, open_old, headed, close_rule}
use Rattle.rules.specs.Gates.{user_gate, entry_gate}
use Rattle.segments.specs.Free.{is_free, lowest_free}
use Rattle.segments.specs.Deeds.{target, prepared}
use Rattle.segments.specs.State.{State, request_on_segments}
use Rattle.cells.specs.Outcomes.{Lent}
use Rattle.cells.specs.Laws.Lowered.{state_of}
use Rattle.proof_requests_agree.specs.Agrees.{request-agrees}
use Rattle.proof_requests_agree.specs.Runs.{run_on_segments, run-agrees}
use Rattle.proof_calls_sound.specs.Keeps.{keeps-sound}
use Rattle.combine.specs.Laws.Tests.{and_first, and_second}
use Rattle.demands.specs.History.{after_call, final}
use Rattle.demands.specs.Hearing.{is_arranging}
use Rattle.demands.specs.Demands.{Sound, is_start}

-- it starts anew, or moves segments
abbrev pub turns : Call → Bool
turns c = is_start c || is_arranging c

-- no call does
abbrev pub goes_on : List Call → Bool
goes_on [] = true
goes_on (c ∷ cs) = not (turns c) && goes_on cs

abbrev after_one : Call → State → State
after_one (starts c) m = m
after_one (asks q) m = m
after_one (arranges q) m = m
after_one (on u e r) m = (request_on_segments r u e m).after
after_one (runs u e r) m = (run_on_segments r u e m).after

-- what unfolds this unfolds every definition that it rests on
unfoldable pub state_after : List Call → State → State
unfolding first_below refuse◌when◌else◌ settle symbols_of name_of scratch_name is_scratch field put_field take_bits put_bits stretch_of offset_of cell_of bit_of held_of slot_of width_of elements_of element_at put_element zeroed copied segment_of write_rule next_rule rename_rule look_up open_new opened_as open_old headed close_rule user_gate entry_gate is_free lowest_free target prepared run_over run_on_segments
state_after [] m = m
state_after (c ∷ cs) m = state_after cs (after_one c m)

one_known : (c : Call) (x : Lent) → Sound x → T (not (turns c)) → state_of (after_call c x) ≡ after_one c (state_of x)
one_known (starts c) x s n = absurd n
one_known (asks q) x s n = refl
one_known (arranges q) x s n = absurd n
one_known (on u e r) x s n = (request-agrees r x.store x.tables u e s).after
one_known (runs u e r) x s n = (run-agrees r x u e s).after

pub state-known : (cs : List Call) (x : Lent) → Sound x → T (goes_on cs) → state_of (final cs x) ≡ state_after cs (state_of x)
unfolding state_after
state-known [] x s n = refl
state-known (c ∷ cs) x s n =
    state-known cs (after_call c x) (keeps-sound c x s) (and_second (not (turns c)) (goes_on cs) n)
    ∙ ap (state_after cs) (one_known c x s (and_first (not (turns c)) (goes_on cs) n))
