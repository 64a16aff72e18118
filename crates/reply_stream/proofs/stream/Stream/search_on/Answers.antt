use Rattle.std.proofs.Common.{◌≡◌, ℕ, List, [], sym, ◌∙◌, ap, subst}
use Rattle.std.proofs.lemmas.List.{append-nil}
use Rattle.head_lines.specs.Lines.{IsSearched}
use Rattle.reply_stream.specs.Stages.{Reads, State}
use Rattle.reply_stream.proofs.HoldLaws.{read_none}
use Rattle.reply_stream.proofs.stream.Stream.search_on.Goals as goal

pub read-requires : goal.read-requires
read-requires c = record {
  searched =
      subst (λ (l : List ℕ). IsSearched l c.front_end.new.self.start c.front_end.new.self.seen)
      (append-nil c.as_slice.result.now ∙ c.as_slice.ensures ∙ ap (λ (s : State). s.held) c.self.view_is)
      (c.front_end.ensures.kept []);
}

pub invariant_of-self : goal.invariant_of-self
invariant_of-self c =
    subst (λ (l : List ℕ). IsSearched l c.front_end.new.self.start c.front_end.new.self.seen)
    (append-nil c.as_slice.result.now ∙ c.as_slice.ensures) (c.front_end.ensures.kept [])

pub returns-clause-reads : goal.returns-clause-reads
returns-clause-reads c = λ asked told reads.
    let state : State = record { asked = c.self.inside.asked; held = c.self.inside.held; stage = c.self.inside.stage } in
    let is : state ≡ c.args.self.now = c.self.view_is in
    let mine : Reads asked told state = subst (λ (s : State). Reads asked told s) (sym is) reads in
    read_none asked told state c.front_end.new.self c.front_end.result mine (ap (λ (s : State). s.asked.kind) is ∙ c.requires.kind)
    (subst (λ (l : List ℕ). c.front_end.result ≡ Rattle.head_lines.specs.Lines.front_len l) c.as_slice.ensures c.front_end.ensures.value)
    (sym c.is_some.ensures ∙ c.if-is_some.false)
