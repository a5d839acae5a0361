-- `page_data::read_page` meets its contract: the page's part of the bytes read comes back as the reply's data, and page 0 is judged by it.
-- Assumes nothing.
use mathlib.Core.Path.{sym}
use lib.Seq.{length-take-le}
use Rattle.page_data.proofs.Pages.{read_room, read_first, read_later}
use Rattle.page_data.proofs.read_page.Goals as goal

pub slice_bounds-judge-end-then-start-eq0 : goal.slice_bounds-judge-end-then-start-eq0
slice_bounds-judge-end-then-start-eq0 c =
    let a = c.args in
    let p = c.page_start-start in
    let r = c.copy_from in
    sym (length-take-le a.g.size _ (read_room c.requires.0 a.d.kind a.d.verdict a.d.aim a.page a.payload.now a.staged.now p.result p.ensures.0 c.requires.1 a.reply.now r.new.part r.ensures))

pub returns-then-start-eq0 : goal.returns-then-start-eq0
returns-then-start-eq0 c =
    let a = c.args in
    let p = c.page_start-start in
    let r = c.copy_from in
    read_first c.requires.0 a.d.kind a.d.verdict a.d.aim a.page a.payload.now a.staged.now p.result p.ensures.0 c.requires.1 a.reply.now r.new.part r.ensures c.judge.result c.if-start-eq0.true (c.judge.ensures a.d.verdict a.staged.now)

pub returns : goal.returns
returns c =
    let a = c.args in
    let p = c.page_start-start in
    let r = c.copy_from in
    read_later c.requires.0 a.d.kind a.d.verdict a.d.aim a.page a.payload.now a.staged.now p.result p.ensures.0 c.requires.1 a.reply.now r.new.part r.ensures c.if-start-eq0.false
