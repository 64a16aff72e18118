use Rattle.std.proofs.Common.{refl, sym, ap, ◌∙◌, ℕ, [], ◌∷◌, true}
use Rattle.std.proofs.lemmas.Bool.{and_from}
use Rattle.host_trace.specs.declared.items.Act.TheVariants.{Shut}
use Rattle.host_trace.specs.declared.items.Item.TheVariants.{Out}
use Rattle.host_trace.specs.Kinds.{is_no_memory}
use Rattle.conn_laws.specs.Moves.{gives}
use Rattle.conn_flags.specs.View.{View as Flags, is_live, noted}
use Rattle.http_state.specs.Moves.{given_up_by}
use Rattle.http_conn.proofs.GaveLaws.{gave_plain, kept_then, shut_dead}
use Rattle.http_conn.proofs.close.shut_for.Goals as goal

pub returns-clause-gave : goal.returns-clause-gave
returns-clause-gave g c n =
    let flags_then = c.shut.ensures c.args.why ∙ ap (λ (k : ℕ). noted c.args.conn.now.flags (Out (Shut k c.args.why))) (sym c.c-number.ensures) in
    gave_plain (Shut c.c-number.result c.args.why) c.c-number.ensures (and_from (is_live c.args.conn.now.flags) true c.requires refl) c.give_plain.ensures.told (kept_then (record {
      site = refl;
      flags = flags_then;
      peer_is = refl;
      child = λ ks w. w;
      front = refl;
      lost = λ l. l;
      reading = λ r. r;
    }) c.note_shut.ensures.kept) (λ e known. tt) (record {
      moves_are = ap (λ (k : ℕ). gives (Shut k c.args.why) ∷ []) c.c-number.ensures;
      is = c.note_shut.ensures.value ∙ ap (λ (m : Flags). record c.args.conn.now { flags = m; run = given_up_by (is_no_memory c.args.why) c.args.conn.now.run }) (c.shut.ensures c.args.why);
    })

pub returns-clause-shut : goal.returns-clause-shut
returns-clause-shut g c =
    ap (λ (m : Flags). is_live m) (c.note_shut.ensures.kept.flags ∙ c.shut.ensures c.args.why) ∙ shut_dead c.args.conn.now.flags c.args.why
