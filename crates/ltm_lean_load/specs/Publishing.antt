-- Mails that are handed over.
use Rattle.std.specs.Prelude.{◌≡◌, ◌≢◌, ℕ, ◌<◌, ◌≤◌, List, length, slice_index, slice_index_or}
use Rattle.ltm_loading.specs.Setting.{Setting}
use Rattle.ltm_lean.specs.declared.mail.Mail.{Mail}
use Rattle.ltm_lean.specs.declared.node.LeanNode.{LeanNode}
use Rattle.ltm_lean.specs.declared.outgoing.Outgoing.{Outgoing}
use Rattle.ltm_lean.specs.Ends.{SameOutgoing}
use Rattle.ltm_lean_load.specs.Nodes.{links_out, mails_out, mail_at, SameButMails}

-- the mails of the first n links of a list are handed over, and each of these links has another as wide
pub record TradesTo (n : ℕ) (old new : List Mail) (outs next : List Outgoing) : Type 0 where
  pub count : length new ≡ length old
  pub long : length next ≡ length outs
  pub here : (j : ℕ) (d : Mail) → j < n → slice_index_or new (slice_index (links_out outs) j) d ≡ slice_index_or (mails_out outs) j d
  pub others : (l : ℕ) (d : Mail) → ((j : ℕ) → j < n → slice_index (links_out outs) j ≢ l) → slice_index_or new l d ≡ slice_index_or old l d
  pub same : (j : ℕ) (d : Outgoing) → j < n → SameOutgoing (slice_index_or outs j d) (slice_index_or next j d)
  pub later : (j : ℕ) (d : Outgoing) → n ≤ j → slice_index_or next j d ≡ slice_index_or outs j d

-- the mail of each link is the one that the node had where it begins
pub record TradesAll (s : Setting) (old new : List Mail) (nodes next : List LeanNode) : Type 0 where
  pub count : length new ≡ length old
  pub long : length next ≡ length nodes
  pub mails : (l : ℕ) (d : Mail) → l < s.links → slice_index_or new l d ≡ mail_at s nodes l d
  pub each : (u : ℕ) (d : LeanNode) → u < length nodes → SameButMails (slice_index_or nodes u d) (slice_index_or next u d)
