-- `wipe 2` on a fresh short part with B 1, as the program `outline` shows it, driven by replies alone: each frame, and the end.
-- Assumes nothing.
use Rattle.std.specs.Prelude.{Some}
use Prim.Native.Nat.{ℕ}
use mathlib.Core.Path.{◌≡◌, refl}
use mathlib.Core.List.{List, [], ◌∷◌}
use lib.ListN.{replicate}
use Rattle.slices.specs.Lists.{tabulate}
use Rattle.geometry.specs.Parts.{part_of, parts, part_among}
use Rattle.geometry.specs.Sectors.{sector_of}
use Rattle.registers.specs.Protection.{has_bits, bits_of}
use Rattle.state.specs.Answers.{number_of}
use Rattle.slots.specs.declared.Kind.TheVariants.{Wipe}
use Rattle.state.specs.declared.Answer.TheVariants.{Done}
use Rattle.slots.specs.declared.Driver.{Driver}
use Rattle.slots.specs.Plans.{is_asking, page_steps, run_by, pages, plan_by, step_at, is_end}
use Rattle.slots.specs.Refusals.{is_over, is_short, early_refusal, or_else, flaws_in, is_misdated}
use Rattle.slots.specs.Calls.{first_course}
use Rattle.slots.specs.Driver.{opcode_of, shape_of, frame_byte, loaded, register_in, heard, course_by, taken_by, is_ended, weighed, verdict_answer, told_by}
use Rattle.slots.specs.Lists.{asking}
use Rattle.worlds.specs.Start.{start_refusal, start_driver}
use Rattle.worlds.specs.Step.{stray_refusal, fault_by, stage_by, stage_in, frame_by, frame_in, took_by, took_in, told_in}
use Rattle.slots.specs.Details.{untold}

-- the fresh chip's replies
abbrev status : List ℕ
status = 255 ∷ 0xA4 ∷ []

abbrev register : List ℕ
register = 255 ∷ 255 ∷ 255 ∷ 255 ∷ replicate 16 0

abbrev silence : List ℕ
silence = 255 ∷ 255 ∷ 255 ∷ 255 ∷ []

-- the states in order
abbrev start : Driver
start = start_driver 33792 (asking Wipe 2 1) untold 0 0

abbrev opened : Driver
opened = took_in start [] [] status

abbrev listed : Driver
listed = took_in opened [] [] register

abbrev locked : Driver
locked = took_in listed [] [] register

abbrev erasing : Driver
erasing = took_in locked [] [] silence

abbrev done : Driver
done = took_in erasing [] [] status

pub record WipeTwo : Type 0 where
  pub first : frame_in start [] [] ≡ 0xD7 ∷ 0 ∷ []
  pub second : frame_in opened [] [] ≡ 0x32 ∷ replicate 19 0
  pub third : frame_in listed [] [] ≡ 0x35 ∷ replicate 19 0
  pub fourth : frame_in locked [] [] ≡ 0x50 ∷ 0x00 ∷ 0x20 ∷ 0x00 ∷ []
  pub fifth : frame_in erasing [] [] ≡ 0xD7 ∷ 0 ∷ []
  pub none : frame_in done [] [] ≡ []
  pub answer : told_in done ≡ Some Done

pub wipe_two_lem : WipeTwo
unfolding start_driver start_refusal early_refusal flaws_in is_over is_short is_misdated or_else first_course number_of parts part_among part_of stray_refusal fault_by stage_by stage_in is_asking page_steps run_by pages plan_by step_at is_end frame_in frame_by tabulate opcode_of shape_of frame_byte loaded took_in took_by taken_by course_by heard register_in has_bits bits_of sector_of is_ended told_in told_by weighed verdict_answer
wipe_two_lem = record { first = refl; second = refl; third = refl; fourth = refl; fifth = refl; none = refl; answer = refl }
