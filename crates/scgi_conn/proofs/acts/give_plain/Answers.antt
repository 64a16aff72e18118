use Rattle.scgi_conn.proofs.acts.give_plain.Goals as goal

pub returns-clause-told : goal.returns-clause-told
returns-clause-told g c = rw (c.act.ensures.room c.requires) at c.act.ensures.told
