use Rattle.std.proofs.Common.{◌++◌, [], encode_utf8, sym, ap, ◌∙◌, append_assoc, rules, refl}
use Rattle.std.proofs.Output.{has_written_append, has_written_of_eq}
use Rattle.std.proofs.lemmas.List.{append-nil}
use Rattle.std.proofs.lemmas.Str.{IsUtf8-past_char}
use Rattle.std.specs.List.{flat_map}
use Rattle.shown_text.specs.Shown.{shown, shown_char}
use Rattle.shown_text.proofs.ShownLaws.{shown-next, shown-nothing}
use Rattle.shown_text.proofs.shown.ShownDisplay.fmt.Goals as goal

pub loop-c-init : goal.loop-c-init
loop-c-init g c = (search rules, λ plain. ([], search rules, search rules))

pub loop-c-preserved : goal.loop-c-preserved
loop-c-preserved g c = (
  IsUtf8-past_char _ _ c.in-Some.c c.loop-c.invariant.0 c.in-Some.ensures.steps.0,
  λ plain.
      let now = c.loop-c.invariant.1 plain in
      let one = shown_char c.in-Some.c in
      let rest = c.next.new.self.rest.now in (
        now.0 ++ one,
        has_written_append _ _ _ _ _ _ now.1 (search rules),
        append_assoc now.0 one (shown rest) ∙ ap (λ l. now.0 ++ l) (sym (shown-next _ rest c.in-Some.c c.loop-c.invariant.0 c.in-Some.ensures.steps.0)) ∙ now.2,
      ),
)

pub returns-clause-writes : goal.returns-clause-writes
returns-clause-writes g c = λ plain ok.
    let now = c.loop-c.invariant.1 plain in
    has_written_of_eq _ _ _ _ _ (sym (append-nil now.0) ∙ ap (λ l. now.0 ++ l) (sym (shown-nothing _ c.in_default.ensures.steps.0.0)) ∙ now.2) now.1
