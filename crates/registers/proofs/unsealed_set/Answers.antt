-- `registers::unsealed_set` meets its contract. The loop's invariant: m is the set of the sectors from s on. Assumes nothing.
use mathlib.Core.Path.{◌≡◌, refl, ◌∙◌}
use Prim.Native.Nat.{◌+◌, ◌-◌, ◌*◌}
use native.Mathlib.Omega.{arith}
use Rattle.geometry.proofs.Sectors.{sectors_few}
use Rattle.registers.specs.Protection.{unsealed_from}
use Rattle.registers.proofs.Sets.{bare, set_alike, from_none, from_most, from_next, from_all}
use Rattle.registers.proofs.unsealed_set.Goals as goal

pub loop-s-init : goal.loop-s-init
loop-s-init c = λ g q. from_none g (bare c.args.seals) c.sector_count-count.result

pub overflow_mul-m : goal.overflow_mul-m
overflow_mul-m c =
    let l = c.loop-s in
    let n = c.sector_count-count.result in
    omega (arith, l.invariant c.args.g c.requires.short, from_most c.args.g (bare c.args.seals) (n - l.s) l.s (omega (arith, sectors_few c.args.g _ c.requires)))

pub is_sealed-requires : goal.is_sealed-requires
is_sealed-requires c = omega (arith, sectors_few c.args.g _ c.requires)

pub loop-s-preserved : goal.loop-s-preserved
loop-s-preserved c =
    let l = c.loop-s in
    let z = bare c.args.seals in
    λ g q. from_next g z c.sector_count-count.result l.s l.m (omega arith) (omega arith) (c.is_sealed.ensures g q z refl) c.from.ensures (l.invariant g q)

pub overflow_add-m : goal.overflow_add-m
overflow_add-m c =
    let l = c.loop-s in
    let g = c.args.g in
    let q = c.requires.short in
    let z = bare c.args.seals in
    let n = c.sector_count-count.result in
    let e : 2 * l.m + c.from.result ≡ unsealed_from g z (n - (l.s - 1)) (l.s - 1) =
    from_next g z n l.s l.m (omega arith) (omega arith) (c.is_sealed.ensures g q z refl) c.from.ensures (l.invariant g q)
    in
    omega (arith, e, from_most g z (n - (l.s - 1)) (l.s - 1) (omega (arith, sectors_few g _ c.requires)))

pub returns : goal.returns
returns c =
    let s = c.args in
    let n = c.sector_count-count in
    let l = c.loop-s in
    λ r e. from_all s.g (bare s.seals) n.result l.s l.m n.ensures (omega arith) (l.invariant s.g c.requires.short) ∙ set_alike s.g r s.seals e
