-- What a link is to its callers.
use Rattle.std.specs.Prelude.{◌≡◌, ℕ, List, [], Some, false}
use Rattle.tungstenite.specs.Socket.{IsFresh, Socket}
use Rattle.websocket.specs.declared.protocol.config.Role.TheVariants.{Server}
use Rattle.ws_link.specs.Pipe.{Directions}

pub record LinkState : Type 0 where
  -- the socket of `tungstenite`, over the two directions
  pub socket : Socket Directions
  -- how often it refused
  pub refusals : ℕ

abbrev pub no_bytes : Directions
no_bytes = record { coming = []; going = [] }

-- the most bytes of a frame and of a message
abbrev pub largest : ℕ
largest = 2097152

-- a link of a server that has read nothing yet of these bytes
pub record Begins (link : LinkState) (rest : List ℕ) : Type 0 where
  pub fresh : IsFresh (record link.socket { input = [] }) no_bytes Server
  pub rest_is : link.socket.input ≡ rest
  pub frames : link.socket.conn.config.max_frame_size ≡ Some largest
  pub messages : link.socket.conn.config.max_message_size ≡ Some largest
  pub masked : link.socket.conn.config.accept_unmasked_frames ≡ false
  pub none_refused : link.refusals ≡ 0
