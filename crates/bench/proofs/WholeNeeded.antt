-- WHY TWO RUNS ASK FOR BUFFERS OF THEIR LENGTHS: two chips alike in registers and size, one of which has buffers of no byte. It can hold no page, so that each 60
-- finds a difference: a put answers 0 on the fresh chip (the bench table has one) and 16 on the other. Computed.
-- Assumes nothing.
use Prim.Native.Nat.{ℕ}
use mathlib.Core.Path.{◌≡◌, refl}
use mathlib.Core.Bool.{false}
use mathlib.Core.List.{[], ◌∷◌}
use Rattle.slices.specs.Lists.{tabulate, over, splice, and_over, same, ring_read, ring_write}
use Rattle.slices.specs.Words.{word_at, word_bytes}
use Rattle.geometry.specs.Parts.{parts, part_among, part_of, address_at, page_at, byte_at, page_start, page_of, in_run}
use Rattle.geometry.specs.Sectors.{sector_of, first_page, end_page, sector_run, sector_count}
use Rattle.commands.specs.Table.{commands, sequences, row_at, sequence_at}
use Rattle.commands.specs.Decode.{lookup_in, lookup_of, begins, sequence_in, opened, complete, decode_of, place_in, place_of}
use Rattle.commands.specs.Room.{room, takes}
use Rattle.registers.specs.Data.{padded, pack16, bytes16, pack64, bytes64}
use Rattle.registers.specs.Protection.{bits_of, has_bits, sealed, unsealed_from, unsealed_set, mask_of, locked_bytes}
use Rattle.registers.specs.Operations.{within, placed_in, placed, run_of, sectors_of, in_set, writes, buffer_used}
use Rattle.control.specs.Obeyed.{class_of, allowed, obeyed}
use Rattle.control.specs.Control.{started_on, programmed_through, protect_off, protection_erased, protection_data, protection_programmed, sector_locked, security_data, security_programmed, row_decided, decoded_control, control}
use Rattle.control.specs.Completion.{completed_by, completed}
use Rattle.control.specs.PowerLoss.{reaching, lost_by, lost}
use Rattle.control.specs.Names.{Names}
use Rattle.control.specs.Rulings.{applied}
use Rattle.memory.specs.Pages.{programmed, programmed_over, transferred, differing, erased, junked, each_sector, in_sectors, junk_buffer}
use Rattle.memory.specs.Replies.{replied}
use Rattle.state.specs.Answers.{number_of}
use Rattle.state.specs.Frames.{is_idle, status_of, data_of, reply_of, buffer_written, written, acted, sent_memory}
use Rattle.state.specs.Completion.{in_target, completed_memory}
use Rattle.state.specs.PowerLoss.{array_lost, lost_memory}
use Rattle.state.specs.Outcomes.{fresh_registers, fresh_state, fresh_by, fresh_outcome, framed, sent_state, sent_by, send_outcome, ended_state, ended_by, end_outcome, pinned_state, pin_outcome, cut_state, cut_fits, cut_by, cut_outcome}
use Rattle.state.specs.Lent.{acted_on}
use Rattle.slots.specs.Plans.{is_asking, page_steps, run_by, pages, plan_by, step_at, is_end, is_wait, frames_most, waits_in, stated, frames_of, polls_of}
use Rattle.dates.specs.declared.Term.TheVariants.{Unlimited}
use Rattle.dates.specs.Calendar.{is_leap, days_in_year, days_in_month, is_date, days_of_years, days_of_months, day_number, day_of}
use Rattle.dates.specs.Terms.{is_term}
use Rattle.slots.specs.Details.{period_of, aim_of}
use Rattle.slots.specs.Records.{slot_size, head_size, version_of, day_bytes, period_bytes, day_in, period_in, is_within, limit_of, length_in, is_record, image, patched, get_verdict, patch_verdict, changed}
use Rattle.slots.specs.Driver.{opcode_of, shape_of, frame_byte, stored_by, loaded, register_in, heard, course_by, judged, read_in, compare_in, miscomparing, taken_by, is_ended, verdict_answer, weighed, told_by}
use Rattle.slots.specs.Refusals.{flaws_in, is_misdated, is_over, is_short, has_over_two, has_cut, bad_script, late_refusal, early_refusal, or_else, call_refusal, raw_refusal}
use Rattle.slots.specs.Calls.{outline, registers_after, memory_after, state_after, open_after, closed_after, step_open, step_closed, run, first_course, start_open, start_closed, ran, count_by, count_of, out_from, answer_in, call_out, call_next, raw_sent, raw_out, raw_next}
use Rattle.slots.specs.Lists.{call_by, raw_by, out_of, called_by, raw_left, next_of, run_list, left_by, bound_of, lent_to, log_of}
use Rattle.slots.specs.Lists.{put}
use Rattle.state.specs.Memory.{State}
use Rattle.slots.specs.Alike.{Twins}
use Rattle.bench.specs.Start.{fresh_short, log, answers}

-- a fresh chip without buffers
abbrev bare : State
bare = record { registers = fresh_short.registers; memory = record { array = fresh_short.memory.array; buffer1 = []; buffer2 = []; compare = false } }

pub whole_needed : Twins fresh_short bare × (answers (put 1 1 Unlimited [] (65 ∷ []) [] log ∷ []) bare ≡ 16 ∷ [])
unfolding tabulate over splice and_over same ring_read ring_write word_at word_bytes parts part_among part_of address_at page_at byte_at page_start page_of in_run sector_of first_page end_page sector_run sector_count commands sequences row_at sequence_at lookup_in lookup_of begins sequence_in opened complete decode_of place_in place_of room takes padded pack16 bytes16 pack64 bytes64 bits_of has_bits sealed unsealed_from unsealed_set mask_of locked_bytes within placed_in placed run_of sectors_of in_set writes buffer_used class_of allowed obeyed started_on programmed_through protect_off protection_erased protection_data protection_programmed sector_locked security_data security_programmed row_decided decoded_control control completed_by completed reaching lost_by lost Names changed applied programmed programmed_over transferred differing erased junked each_sector in_sectors junk_buffer replied number_of is_idle status_of data_of reply_of buffer_written written acted sent_memory in_target completed_memory array_lost lost_memory fresh_registers fresh_state fresh_by fresh_outcome framed sent_state sent_by send_outcome ended_state ended_by end_outcome pinned_state pin_outcome cut_state cut_fits cut_by cut_outcome acted_on is_asking page_steps run_by pages plan_by step_at is_end is_wait frames_most waits_in stated frames_of polls_of slot_size limit_of length_in is_record image patched get_verdict patch_verdict is_leap days_in_year days_in_month is_date days_of_years days_of_months day_number day_of is_term period_of aim_of head_size version_of day_bytes period_bytes day_in period_in is_within is_misdated flaws_in opcode_of shape_of frame_byte stored_by loaded register_in heard course_by judged read_in compare_in miscomparing taken_by is_ended verdict_answer weighed told_by is_over is_short has_over_two has_cut bad_script late_refusal early_refusal or_else call_refusal raw_refusal outline registers_after memory_after state_after open_after closed_after step_open step_closed run first_course start_open start_closed ran count_by count_of out_from answer_in call_out call_next raw_sent raw_out raw_next call_by raw_by out_of called_by raw_left next_of run_list left_by bound_of lent_to log_of fresh_short log
whole_needed = (record { registers = refl; size = refl }, refl)
