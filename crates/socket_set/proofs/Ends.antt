-- Ends of sockets.
use Rattle.std.proofs.Common.{◌≡◌, [], refl, sym, subst}
use Rattle.std.proofs.KnownBytes.{Appends-nil}
use Rattle.socket_set.specs.Sockets.{SocketTells, EndsReceiving}

cut_self : (a : SocketTells) → EndsReceiving a a
cut_self a = record { cut = []; left = Appends-nil a.left; rest = refl }

-- a socket that tells the same has nothing cut
pub nothing_cut : (a b : SocketTells) → b ≡ a → EndsReceiving a b
nothing_cut a b e = subst (λ w. EndsReceiving a w) (sym e) (cut_self a)
