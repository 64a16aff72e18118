-- What holds of a connection holds of it as the core of all connections holds it.
use Rattle.std.proofs.Common.{◌≡◌, ℕ, List, Option}
use Rattle.host_base.specs.declared.site.Site.{Site}
use Rattle.host_trace.specs.declared.items.Event.{Event}
use Rattle.host_trace.specs.declared.items.Item.{Item}
use Rattle.many_conns.specs.Kind.{Gives, Gone, Laws}
use Rattle.conn_core.specs.Kind.{conn_kind}
use Rattle.good_step_laws.specs.Both.Stands.{phase_kind}
use Rattle.good_step_laws.proofs.Both.KindLaws.{may_stand}
use Rattle.conn_core.specs.declared.conn.Conn.{Conn}

held_as : (site : Site) (c : ℕ) (L : List Item) → Gone phase_kind site c L → Gone conn_kind site c L
held_as site c L g = record { conn = record { conn = g.conn; talks = may_stand site g.conn L g.stands }; number = g.number; stands = g.stands; free = g.free }

bare : (site : Site) (c : ℕ) (L : List Item) → Gone conn_kind site c L → Gone phase_kind site c L
bare site c L g = record { conn = g.conn.conn; number = g.number; stands = g.stands; free = g.free }

pub kind_laws : Laws phase_kind → Laws conn_kind
kind_laws laws = record {
  unsettled_is_last = λ host k is. laws.unsettled_is_last host.conn k is;
  needs_is = λ host. laws.needs_is host.conn;
  site_is = λ site host L t. laws.site_is site host.conn L t;
  good = λ site host L t. laws.good site host.conn L t;
  unsettled = λ site host L t. laws.unsettled site host.conn L t;
  last_child_started = λ site host L k t is. laws.last_child_started site host.conn L k t is;
  shut_is = λ site host L t. laws.shut_is site host.conn L t;
  fits_is = λ site host L ev t named. laws.fits_is site host.conn L ev t named;
  late = λ site host L limit n stamp k ev t fit named over. laws.late site host.conn L limit n stamp k ev t fit named over;
  idle = λ site c L limit n stamp ev g fit. held_as site c _ (laws.idle site c L limit n stamp ev (bare site c L g) fit);
  full = λ site host M c L peer t ticks. held_as site c _ (laws.full site host.conn M c L peer t ticks);
}

pub conn_gives : (old new : Conn) (n m : ℕ) (ev : Event) (stamp : Option ℕ) (before after : Option (List Item)) → Gives phase_kind old.conn n ev stamp new.conn m before after
    → Gives conn_kind old n ev stamp new m before after
conn_gives old new n m ev stamp before after g = record {
  acts = g.acts;
  added = g.added;
  next = g.next;
  site = g.site;
  number = g.number;
  stays = g.stays;
  its = λ ks w. let i = g.its ks w in record { are = i.are; child = i.child };
  own = λ L t fit. let o = g.own L t fit in record { alone = o.alone; stands = o.stands };
}
