-- For what memory may run out in a step.
use Rattle.std.proofs.Common.{◌≡◌, ◌⊎◌, ℕ, Bool, true, false, ◌||◌, List, [], ◌∷◌, ◌++◌, refl, sym, ap, ◌∙◌, inl, inr}
use Rattle.std.specs.List.{list_any}
use Rattle.std.proofs.lemmas.Bool.{false≢true}
use Rattle.host_base.specs.declared.site.Site.{Site}
use Rattle.host_trace.specs.declared.items.Act.TheVariants.{Write}
use Rattle.host_trace.specs.declared.items.Item.TheVariants.{Out}
use Rattle.trace_child.specs.Words.{is_filled}
use Rattle.trace_model.specs.Demands.{is_live}
use Rattle.trace_model.specs.Exchange.{Exchange, all_of, continue_text, pushed, request_bytes}
use Rattle.trace_model.specs.Exchanges.{following}
use Rattle.trace_model.specs.TakesNoMemory.{is_hop_act, lacks_hop, lacks_reply, writes}
use Rattle.conn_laws.specs.Moves.{Move, acts_of, continues, gives, moved, settles}
use Rattle.http_step_laws.proofs.PushWords.{bytes_quiet}
use Rattle.good_step_laws.proofs.Shuts.EarnWords.{has_settle}

-- Something was written, or a hop started; an exchange ended, and a byte of the next one was heard; or of a live connection
-- a reply or a hop is lacked at the exchange that goes on.
pub data Cause (site : Site) (c : ℕ) (e : Exchange) (over : List Exchange) (moves : List Move) : Type 0 where
  wrote : writes c (acts_of moves) ≡ true → Cause site c e over moves
  hopped : list_any is_hop_act (acts_of moves) ≡ true → Cause site c e over moves
  heard : (has_settle moves || is_filled over) ≡ true → is_filled (request_bytes c (moved site c e moves)) ≡ true → Cause site c e over moves
  lacks : (is_live c (all_of (moved site c e moves)) ≡ true → (lacks_reply site c (moved site c e moves) ≡ true) ⊎ (lacks_hop site c (moved site c e moves) ≡ true)) → Cause site c e over moves

-- acts bring no bytes
pub bytes_kept : (site : Site) (c : ℕ) (e : Exchange) (moves : List Move) → has_settle moves ≡ false → request_bytes c (moved site c e moves) ≡ request_bytes c e
bytes_kept site c e [] none = refl
bytes_kept site c e (gives act ∷ moves) none = bytes_kept site c (pushed e (Out act)) moves none ∙ bytes_quiet c e (Out act) refl
bytes_kept site c e (continues d ∷ moves) none = bytes_kept site c (pushed e (Out (Write d continue_text))) moves none ∙ bytes_quiet c e (Out (Write d continue_text)) refl
bytes_kept site c e (settles ending ∷ moves) none = absurd (false≢true (sym none))

pub unfilled : {X : Type 0} (xs : List X) → is_filled xs ≡ false → xs ≡ []
unfilled [] e = refl
unfilled (x ∷ xs) e = absurd (false≢true (sym e))
