use Rattle.std.proofs.Common.{ℕ, ◌+◌, ◌*◌, ◌/◌, ◌%◌, arith, refl, subst, sym}
use Rattle.client_cache.specs.Shape.{set_of}
use Rattle.elf_loader.specs.Size.{base}
use Rattle.host_threads.proofs.Sets.{Walks, set_below, set_of_walk, sized, walk_begins, walk_ends, walk_finds, walk_goes_on}
use Rattle.host_threads.proofs.spare.lowest_spare.Goals as goal
use Rattle.machine_model.specs.Views.{shape_of_config}

pub loop-line-init : goal.loop-line-init
loop-line-init c =
    subst (λ (n : ℕ). Walks c.args.config.now c.args.cache.now (set_of (shape_of_config c.args.config.now) c.args.address) (base + c.args.address / n % c.args.config.now.sets * n)) (sym c.bytes-bytes.ensures)
    (walk_begins c.args.config.now c.args.cache.now c.args.address (sized c.args.config.now))

pub loop-line-preserved : goal.loop-line-preserved
loop-line-preserved c =
    subst (λ (n : ℕ). Walks c.args.config.now c.args.cache.now (set_of (shape_of_config c.args.config.now) c.args.address) (c.loop-line.line + c.args.config.now.sets * n)) (sym c.bytes-bytes.ensures)
    (walk_goes_on c.args.config.now c.args.cache.now (set_of (shape_of_config c.args.config.now) c.args.address) c.loop-line.line c.loop-line.invariant
    (λ spare. absurd (let found = c.if-is_spare.ensures.1 spare in cc)))

pub returns-then-is_spare-clause-victim : goal.returns-then-is_spare-clause-victim
returns-then-is_spare-clause-victim c =
    let config = c.args.config.now in
    let set = set_of (shape_of_config config) c.args.address in
    let s = sized config in
    record {
      lowest = walk_finds config c.args.cache.now set c.loop-line.line s (set_below config c.args.address s) c.loop-line.invariant (c.if-is_spare.ensures.0 refl);
      set = set_of_walk config c.args.cache.now set c.loop-line.line s (set_below config c.args.address s) c.loop-line.invariant;
    }

pub returns-clause-none : goal.returns-clause-none
returns-clause-none c =
    walk_ends c.args.config.now c.args.size c.args.cache.now c.args.address c.loop-line.line (sized c.args.config.now) c.loop-line.invariant
    (omega (arith, c.loop-line-test.false))
