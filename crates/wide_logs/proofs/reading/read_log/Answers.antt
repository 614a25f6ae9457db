use Rattle.std.proofs.Common.{ap, inl, inr, refl, subst, sym, ◌∙◌, ◌++◌, List}
use Rattle.wide_logs.proofs.Stops.{handed_up, no_head, refused_behind}
use Rattle.wide_logs.proofs.ReadBack.{shape_reads}
use Rattle.wide_logs.specs.Logs.{IsLogRefusal, IsReadAs, code_at, head}
use Rattle.wide_logs.specs.declared.entry.WideLogged.{WideLogged}
use Rattle.wide_logs.proofs.reading.read_log.Goals as goal

pub returns-in_default-clause-refused : goal.returns-in_default-clause-refused
returns-in_default-clause-refused c =
    inr (record {
      rest = c.args.bytes.now;
      stops = inl (c.fault_at.ensures.line, refl, no_head c.args.bytes.now (sym c.in_default.ensures.value));
      code = c.fault_at.ensures.code ∙ ap (λ n. code_at n c.args.bytes.now) (sym c.fault_at.ensures.line);
      cause = c.fault_at.ensures.cause;
    })

pub returns-in_err-entries-clause-refused : goal.returns-in_err-entries-clause-refused
returns-in_err-entries-clause-refused c =
    handed_up (IsLogRefusal c.args.bytes.now) c.from_residual.result _ c.from_residual.ensures.1
    (refused_behind c.in-Some.shape c.args.bytes.now c.in-Some.rest.now _ c.in-Some.ensures.value c.in_err-entries.ensures.stop)

pub returns-in-Ok-clause-read : goal.returns-in-Ok-clause-read
returns-in-Ok-clause-read c =
    let t = shape_reads.takes c.args.bytes.now c.in-Some.shape c.in-Some.rest.now (sym c.in-Some.ensures.value) in
    let read = c.in_ok-entries.ensures.read in (
      record { shape = c.in-Some.shape; entries = c.in_ok-entries.entries.items },
      record { shape = t.1; entries = read.each },
      t.0 ∙ ap (λ u. head c.in-Some.shape ++ u) read.parts,
      subst (λ (items : List WideLogged). IsReadAs c.in-Ok.log (record { shape = c.in-Some.shape; entries = items })) c.deref.ensures.value c.in-Ok.ensures,
    )
