-- What the set of names says of a text.
use Rattle.std.proofs.Common.{ℕ, List, ap, ◌∙◌}
use Rattle.std.specs.Prelude.{not, ◌||◌}
use Rattle.std.specs.List.{list_any}
use Rattle.std.specs.Global.{Vec}
use Rattle.std.specs.Str.{bytes_eq}
use Rattle.scgi_reader.specs.Names.{was_seen}
use Rattle.scgi_reader.proofs.NameLaws.{insert_seen, same_test}
use Rattle.scgi_reader.proofs.pairs.note.Goals as goal

pub returns-clause-new : goal.returns-clause-new
returns-clause-new c =
    c.in_ok-insert.ensures.added ∙ ap not (same_test c.in_ok-name.name c.args.names.now.keys)
    ∙ ap (λ (n : List ℕ). not (was_seen c.args.names.now n)) c.in_ok-name.ensures.items

pub returns-clause-seen : goal.returns-clause-seen
returns-clause-seen c other =
    ap (λ (ks : List (Vec ℕ)). list_any (λ y. bytes_eq other y.items) ks) c.in_ok-insert.ensures.keys
    ∙ insert_seen c.in_ok-name.name other c.args.names.now.keys
    ∙ ap (λ (n : List ℕ). bytes_eq other n || was_seen c.args.names.now other) c.in_ok-name.ensures.items
