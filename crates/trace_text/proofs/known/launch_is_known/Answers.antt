use Rattle.trace_text.proofs.known.launch_is_known.Goals as goal

pub returns : goal.returns
returns c = record {
  program = c.text_is_known.ensures;
  dir = c.text_is_known-2.ensures;
  args = c.texts_are_known.ensures;
  env = c.pairs_are_known.ensures;
}
