use Rattle.std.proofs.Common.{ap, ◌∙◌, ℕ, List, sym}
use Rattle.tl_types.specs.declared.permission.Grow.{Grow}
use Rattle.directory.specs.Harts.{has}
use Rattle.directory.specs.Lines.{conflicts}
use Rattle.directory.specs.Entries.{perm_of}
use Rattle.directory.proofs.Masks.{reading, writing, with}
use Rattle.directory.proofs.entry.Entry.holders.Goals as goal

pub returns-in-Some : goal.returns-in-Some
returns-in-Some c = λ h l.
    ap (λ (s : List ℕ). has s h) (c.with.ensures ∙ ap (λ (s : List ℕ). with s c.in-Some.owner) c.new.ensures)
    ∙ reading c.args.self.now c.in-Some.owner c.in-Some.is h l
    ∙ ap (λ (grow : Grow). conflicts grow (perm_of c.args.self.now h)) (sym c.in-NtoB.is)

pub returns-in-Some-owner : goal.returns-in-Some-owner
returns-in-Some-owner c = λ h l.
    ap (λ (s : List ℕ). has s h) c.with-in-Some-owner.ensures
    ∙ writing c.args.self.now c.args.grow c.in-Some-owner.owner c.in_default.not-NtoB c.in-Some-owner.is h l
