-- `completion::complete_memory` meets its contract: each arm is what the operation's work makes of the memory, on the page and with the buffer of its facts.
-- Assumes nothing.
use Prim.Native.Nat.{ℕ, ◌+◌, ◌-◌, ◌<◌}
use mathlib.Core.List.{List}
use lib.ListN.{take, drop}
use Rattle.slices.specs.Lists.{splice}
use Rattle.geometry.specs.Parts.{page_room}
use mathlib.Core.Bool.{true}
use Prim.Native.Nat.{◌≤◌}
use Rattle.geometry.specs.declared.Geometry.{Geometry}
use Rattle.commands.specs.declared.Buffer.{Buffer}
use Rattle.registers.specs.declared.Operation.{Operation}
use Rattle.registers.specs.Facts.{facts_of}
use Rattle.registers.specs.declared.Work.{Work}
use Rattle.registers.specs.declared.Facts.{Facts}
use mathlib.Core.Path.{◌≡◌, refl, sym, ap, ◌∙◌}
use native.Mathlib.Omega.{arith}
use Rattle.completion.proofs.Lent.{erases, works}
use Rattle.slices.proofs.Laws.{run-part, run_length, kept_spliced}
use Rattle.state.specs.Completion.{page_in}
use Rattle.state.specs.Lent.{lent}
use Rattle.completion.specs.Work.{array_by, buffer_by, bit_by}
use Rattle.registers.proofs.Operations.{page_within}
use Rattle.registers.specs.Operations.{page_named, buffer_of, buffer_used, within}
use Rattle.completion.proofs.complete_memory.Goals as goal

-- the buffer and the page are the operation's, and the work is
used : (o : Operation) {f : Facts} {b : Buffer} → b ≡ buffer_of f.usage → f ≡ facts_of o → b ≡ buffer_used o
unfolding buffer_used
used o h e = h ∙ ap (λ (f : Facts). buffer_of f.usage) e

paged : (o : Operation) {f : Facts} {page : ℕ} → page ≡ page_named f.names → f ≡ facts_of o → page ≡ page_in o
paged o h e = h ∙ ap (λ (f : Facts). page_named f.names) e

kinds : (o : Operation) {f : Facts} {w : Work} → f ≡ facts_of o → f.work ≡ w → (facts_of o).work ≡ w
kinds o e h = ap (λ (f : Facts). f.work) (sym e) ∙ h

-- the page is in the part
few : (g : Geometry) (o : Operation) {page : ℕ} → page ≡ page_in o → 8 ≤ g.pages → within g o ≡ true → page < g.pages
unfolding within
few g o e b w =
    omega (arith, e, page_within g (facts_of o).names (omega arith) w)

pub returns-in-Erase : goal.returns-in-Erase
returns-in-Erase c =
    let a = c.args in
    let f = c.facts_of-f.ensures in
    erases a.g a.o _ _ (used _ c.buffer_of-buffer.ensures f) (paged _ c.page_named-page.ensures f) a.array.now a.buffers.now a.bit (kinds _ f c.in-Erase.is) c.erase.ensures

pub work-requires : goal.work-requires
work-requires c = (c.requires.0, few c.args.g c.args.o (paged _ c.page_named-page.ensures c.facts_of-f.ensures) c.requires.0.blocks c.requires.1, run_length c.buffer_start-a.result page_room c.args.buffers.now (omega (arith, c.requires.2)))

pub returns : goal.returns
returns c =
    let a = c.args in
    let page = c.page_named-page.result in
    let w = c.facts_of-f.result.work in
    let bs = a.buffers.now in
    let start = c.buffer_start-a in
    let f = c.facts_of-f.ensures in
    let done = c.work in
    let part = run-part start.result page_room bs ∙ ap (λ (n : ℕ). take page_room (drop n bs)) start.ensures.0 in
    works a.g a.o c.buffer_of-buffer.result page (used _ c.buffer_of-buffer.ensures f) (paged _ c.page_named-page.ensures f) a.array.now bs a.bit c.requires.2 w c.in_default.not-Erase (kinds _ f refl)
    (done.ensures.0 ∙ ap (λ (l : List ℕ). array_by a.g page l a.array.now w) part)
    (kept_spliced start.result (start.result + page_room - start.result) bs (omega arith) done.auto.buffer done.ensures.1
    ∙ ap (λ (l : List ℕ). splice start.result (buffer_by a.g page a.array.now l w) bs) part
    ∙ ap (λ (n : ℕ). splice n (buffer_by a.g page a.array.now (lent c.buffer_of-buffer.result bs) w) bs) start.ensures.0)
    (done.ensures.2 ∙ ap (λ (l : List ℕ). bit_by a.g page a.array.now l a.bit w) part)
