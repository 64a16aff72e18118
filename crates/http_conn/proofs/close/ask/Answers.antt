use Rattle.std.proofs.Common.{refl, sym, ap, ◌∙◌, ℕ, [], ◌∷◌}
use Rattle.host_trace.specs.declared.items.Act.TheVariants.{WantClient}
use Rattle.host_trace.specs.declared.items.Item.TheVariants.{Out}
use Rattle.conn_laws.specs.Moves.{gives}
use Rattle.conn_flags.specs.View.{View as Flags, noted}
use Rattle.http_conn.proofs.GaveLaws.{gave_plain}
use Rattle.http_conn.proofs.close.ask.Goals as goal

pub returns-clause-gave : goal.returns-clause-gave
returns-clause-gave g c n =
    gave_plain (WantClient c.c-number.result) c.c-number.ensures c.requires c.give_plain.ensures.told (record {
      site = refl;
      flags = c.ask.ensures ∙ ap (λ (k : ℕ). noted c.args.conn.now.flags (Out (WantClient k))) (sym c.c-number.ensures);
      peer_is = refl;
      child = λ ks w. w;
      front = refl;
      lost = λ l. l;
      reading = λ r. r;
    }) (λ e known. tt) (record {
      moves_are = ap (λ (k : ℕ). gives (WantClient k) ∷ []) c.c-number.ensures;
      is = ap (λ (m : Flags). record c.args.conn.now { flags = m }) c.ask.ensures;
    })
