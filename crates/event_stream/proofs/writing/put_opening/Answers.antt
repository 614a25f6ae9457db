use Rattle.std.proofs.Common.{◌≡◌, ℕ, ◌/◌, ◌++◌, List, ◌∙◌, ap, length, refl, subst}
use Rattle.elf_loader.specs.Image.{Initial}
use Rattle.elf_loader.specs.Size.{base}
use Rattle.text_fields.specs.Pages.{Spells}
use Rattle.tl_types.specs.Line.{length_of}
use Rattle.tl_types.specs.declared.line.LineSize.{LineSize}
use Rattle.trace_text.specs.History.{History}
use Rattle.trace_text.specs.Traces.{image, image_lines}
use Rattle.event_stream.specs.Streams.{head}
use Rattle.event_stream.proofs.Paging.{spells_behind}
use Rattle.event_stream.proofs.writing.put_opening.Goals as goal

head_is : (t : History) (h k e : ℕ) (s : LineSize) → h ≡ length t.statuses → k ≡ length t.image.bytes → e ≡ t.image.entry → s ≡ t.line
    → head h (k / 1024) e s ≡ head (length t.statuses) (length t.image.bytes / 1024) t.image.entry t.line
head_is t h k e s eh ek ee es = ap (λ (n : ℕ). head n (k / 1024) e s) eh ∙ (ap (λ (n : ℕ). head (length t.statuses) (n / 1024) e s) ek ∙ (ap (λ (n : ℕ). head (length t.statuses) (length t.image.bytes / 1024) n s) ee ∙ ap (head (length t.statuses) (length t.image.bytes / 1024) t.image.entry) es))

image_is : (width : ℕ) (memory : List ℕ) (size : LineSize) (bytes : List ℕ) → width ≡ length_of size → memory ≡ bytes → image_lines width (length memory / width) base memory ≡ image size bytes
image_is width memory size bytes e f = rw (e, f) refl

pub returns : goal.returns
returns g c =
    let same = head_is c.args.trace.now.history _ _ _ _ c.harts.ensures.statuses (c.size-kib.ensures.exact ∙ ap (λ (i : Initial). length i.bytes) c.image-2.ensures) (c.entry.ensures.exact ∙ ap (λ (i : Initial). i.entry) c.image-3.ensures) c.line_size-line.ensures in
    spells_behind _ _ _ c.spell_head.new.page _ _ _ _ (c.spell_head.ensures ∙ ap (λ (t : List ℕ). c.args.page.now ++ t) same)
    (subst (λ (t : List ℕ). Spells (g.W.Write.contents c.args.out.now) (g.W.Write.contents c.put_image.new.out) c.spell_head.new.page c.put_image.new.page t c.put_image.result)
    (image_is _ _ c.args.trace.now.history.line c.args.trace.now.history.image.bytes (c.bytes.ensures ∙ ap length_of c.line_size-line.ensures) (c.bytes-memory.ensures.exact ∙ ap (λ (i : Initial). i.bytes) c.image.ensures)) c.put_image.ensures)
