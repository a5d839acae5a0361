-- `register_ends::finish` meets its contract: arm for arm the definition, by the operation's update; a lock names a sector that the registers serve (`lock_small`).
-- Assumes nothing.
use Prim.Native.Nat.{ℕ}
use mathlib.Core.List.{List}
use lib.ListN.{length, replicate, length-replicate}
use Rattle.slices.specs.Lists.{over}
use Rattle.slices.proofs.Laws.{over-whole}
use Rattle.geometry.specs.Parts.{register_room}
use Rattle.registers.specs.Fields.{with_protection, with_user}
use Rattle.control.proofs.Steps.{lock_small, update-ends}
use mathlib.Core.Path.{◌≡◌, refl, sym, ap, ◌∙◌}
use borrow.Author.Rules.{rules}
use Rattle.register_ends.proofs.finish.Goals as goal

-- FFh in every byte of a register that fills its room
filled : (n : ℕ) (bytes : List ℕ) → n ≡ register_room → length bytes ≡ register_room → replicate register_room 255 ≡ over (replicate n 255) bytes
filled n bytes e l = sym (over-whole (replicate n 255) bytes (length-replicate n 255 ∙ e ∙ sym l) ∙ ap (λ (k : ℕ). replicate k 255) e)

pub lock-requires : goal.lock-requires
lock-requires c = lock_small c.args.g _ c.in-Lock.sector c.args.o c.requires.0 c.requires.1 c.update_of.ensures c.in-Lock.is

pub returns-in-Keep : goal.returns-in-Keep
returns-in-Keep c = update-ends c.args.g c.args.o c.args.r c.update_of.ensures c.in-Keep.is refl

pub returns-in-FillProtection : goal.returns-in-FillProtection
returns-in-FillProtection c =
    let r = c.args.r in
    let m : length r.protection ≡ register_room = search rules in
    update-ends c.args.g c.args.o r c.update_of.ensures c.in-FillProtection.is
    (c.with_protection.ensures ∙ ap (with_protection r) (filled c.args.g.register r.protection c.requires.0.short m))

pub returns-in-MaskProtection : goal.returns-in-MaskProtection
returns-in-MaskProtection c = update-ends c.args.g c.args.o c.args.r c.update_of.ensures c.in-MaskProtection.is c.finish_protection.ensures

pub returns-in-Lock : goal.returns-in-Lock
returns-in-Lock c = update-ends c.args.g c.args.o c.args.r c.update_of.ensures c.in-Lock.is (c.lock.ensures c.args.g c.requires.0.short)

pub returns-in-WriteUser : goal.returns-in-WriteUser
returns-in-WriteUser c = update-ends c.args.g c.args.o c.args.r c.update_of.ensures c.in-WriteUser.is (c.with_user.ensures ∙ ap (with_user c.args.r) c.unpacked64.ensures)
