use Rattle.std.proofs.Common.{◌≡◌, not, ap, sym, ◌∙◌}
use Rattle.elf_loader.proofs.Faults.{first_class, first_flags, first_machine, first_table, first_type, is_not, is_other, not_short, past_header}
use Rattle.elf_loader.proofs.header.check_header.Goals as goal

pub returns-then-not-has_class-clause-refused : goal.returns-then-not-has_class-clause-refused
returns-then-not-has_class-clause-refused c = λ size.
    first_class c.args.file.now size
    (not_short _ c.if-file-lt-HEADER_SIZE.false)
    (ap not (sym c.if-not-starts_with.ensures.value))
    (c.if-not-has_class.ensures size)

pub returns-then-half-ne-ET_EXEC-clause-refused : goal.returns-then-half-ne-ET_EXEC-clause-refused
returns-then-half-ne-ET_EXEC-clause-refused c = λ size.
    first_type c.args.file.now size
    (not_short _ c.if-file-lt-HEADER_SIZE.false)
    (ap not (sym c.if-not-starts_with.ensures.value))
    (c.if-not-has_class.ensures size)
    (is_other _ 2 (λ e. c.if-half-ne-ET_EXEC.true (c.half.ensures ∙ e)))

pub returns-then-half-ne-EM_RISCV-clause-refused : goal.returns-then-half-ne-EM_RISCV-clause-refused
returns-then-half-ne-EM_RISCV-clause-refused c = λ size.
    first_machine c.args.file.now size
    (not_short _ c.if-file-lt-HEADER_SIZE.false)
    (ap not (sym c.if-not-starts_with.ensures.value))
    (c.if-not-has_class.ensures size)
    (is_not _ 2 (sym c.half.ensures ∙ c.if-half-ne-ET_EXEC.false))
    (is_other _ 243 (λ e. c.if-half-ne-EM_RISCV.true (c.half-2.ensures ∙ e)))

pub returns-then-long-ne0-clause-refused : goal.returns-then-long-ne0-clause-refused
returns-then-long-ne0-clause-refused c = λ size.
    first_flags c.args.file.now size
    (not_short _ c.if-file-lt-HEADER_SIZE.false)
    (ap not (sym c.if-not-starts_with.ensures.value))
    (c.if-not-has_class.ensures size)
    (is_not _ 2 (sym c.half.ensures ∙ c.if-half-ne-ET_EXEC.false))
    (is_not _ 243 (sym c.half-2.ensures ∙ c.if-half-ne-EM_RISCV.false))
    (is_other _ 0 (λ e. c.if-long-ne0.true (c.long.ensures ∙ e)))

pub returns-then-not-has_table-clause-refused : goal.returns-then-not-has_table-clause-refused
returns-then-not-has_table-clause-refused c = λ size.
    first_table c.args.file.now size
    (not_short _ c.if-file-lt-HEADER_SIZE.false)
    (ap not (sym c.if-not-starts_with.ensures.value))
    (c.if-not-has_class.ensures size)
    (is_not _ 2 (sym c.half.ensures ∙ c.if-half-ne-ET_EXEC.false))
    (is_not _ 243 (sym c.half-2.ensures ∙ c.if-half-ne-EM_RISCV.false))
    (is_not _ 0 (sym c.long.ensures ∙ c.if-long-ne0.false))
    (c.if-not-has_table.ensures.exact size)

pub returns-clause-passed : goal.returns-clause-passed
returns-clause-passed c = λ size.
    past_header c.args.file.now size
    (not_short _ c.if-file-lt-HEADER_SIZE.false)
    (ap not (sym c.if-not-starts_with.ensures.value))
    (c.if-not-has_class.ensures size)
    (is_not _ 2 (sym c.half.ensures ∙ c.if-half-ne-ET_EXEC.false))
    (is_not _ 243 (sym c.half-2.ensures ∙ c.if-half-ne-EM_RISCV.false))
    (is_not _ 0 (sym c.long.ensures ∙ c.if-long-ne0.false))
    (c.if-not-has_table.ensures.exact size)
