-- `printing::print_frames` meets its contract: after i turns the lines of the first i frames are printed. Assumes nothing.
use lib.ListN.{length, drop}
use mathlib.Core.Path.{◌≡◌}
use Prim.Native.Nat.{◌*◌, ◌+◌, ◌≤◌}
use Rattle.std.specs.Slice.Iter.{chunks_exact_rest, chunks_exact_size}
use Rattle.std.specs.Iterator.Adapters.{take_source, take_count}
use Rattle.printing.specs.Held.{Printed}
use Rattle.printing.specs.Texts.{frames_text}
use Rattle.printing.proofs.print_frames.Given as goal

abbrev pub invariant-loop-entry : goal.invariant-loop-entry
invariant-loop-entry l = record {
  fills : length l.text ≡ length l.initial.text;
  six : chunks_exact_size (take_source l.entry-iterator) ≡ 6;
  count : take_count l.entry-iterator + length l.yielded ≡ l.frames;
  whole : 6 * length l.yielded ≤ length l.log;
  left : chunks_exact_rest (take_source l.entry-iterator) ≡ drop (6 * length l.yielded) l.log;
  printed : Printed (frames_text (length l.yielded) l.log) l.initial.o l.initial.text l.o l.text;
}
