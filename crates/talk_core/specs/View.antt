-- What is known of a talk.
use Rattle.std.specs.Prelude.{ℕ, Bool, true, false, List, [], Option, None}

pub record View : Type 0 where
  pub conn : ℕ
  pub child : ℕ
  pub limit : ℕ  -- how many bytes a text or a line may have
  pub rest : List ℕ  -- what stands behind the last LF of the output
  pub texts : List (List ℕ)  -- messages that are to be said
  pub code : Option ℕ  -- the code of the close frame that is to be sent
  pub over : Bool  -- it has ended, or its connection is shut

-- a talk of which nothing was heard
abbrev pub begun : ℕ → ℕ → ℕ → View
begun c k limit = record { conn = c; child = k; limit = limit; rest = []; texts = []; code = None; over = false }

-- nothing more is heard, said or sent
abbrev pub given_up : View → View
given_up t = record t { rest = []; texts = []; code = None; over = true }
