-- The nodes of a network, each with its links.
use Rattle.std.specs.Prelude.{◌≡◌, ℕ, ◌<◌, List, [], length, map, slice_index, slice_index_or}
use Rattle.ltm_curve.specs.Counts.{Counts}
use Rattle.ltm_loading.specs.Setting.{Setting}
use Rattle.ltm_lean.specs.declared.incoming.Incoming.{Incoming}
use Rattle.ltm_lean.specs.declared.mail.Mail.{Mail}
use Rattle.ltm_lean.specs.declared.node.LeanNode.{LeanNode}
use Rattle.ltm_lean.specs.declared.outgoing.Outgoing.{Outgoing}
use Rattle.ltm_lean.specs.declared.room.NodeRoom.{NodeRoom}
use Rattle.ltm_lean.specs.declared.tables.Tables.{Tables}
use Rattle.ltm_lean.specs.Ends.{SameOutgoing}
use Rattle.ltm_lean.specs.Nodes.{MovedAtNode}
use Rattle.ltm_lean.specs.Rooms.{HasRoomFor}

-- the numbers of links into a node and out of it, and what left and what entered each in the last slot
abbrev pub links_in : List Incoming → List ℕ
links_in ins = map (λ (x : Incoming). x.link.0) ins

abbrev pub gone_in : List Incoming → List ℕ
gone_in ins = map (λ (x : Incoming). x.gone) ins

abbrev pub links_out : List Outgoing → List ℕ
links_out outs = map (λ (x : Outgoing). x.link.0) outs

abbrev pub mails_out : List Outgoing → List Mail
mails_out outs = map (λ (x : Outgoing). x.mail) outs

abbrev pub came_out : List Outgoing → List ℕ
came_out outs = map (λ (x : Outgoing). x.mail.came) outs

-- the links into each node and out of it stand there in the order of the network
pub record AreEnds (s : Setting) (nodes : List LeanNode) : Type 0 where
  pub count : length nodes ≡ s.nodes
  pub ins : (u : ℕ) (d : LeanNode) → u < s.nodes → length (slice_index_or nodes u d).ins.items ≡ s.ins u
  pub outs : (u : ℕ) (d : LeanNode) → u < s.nodes → length (slice_index_or nodes u d).outs.items ≡ s.outs u
  pub in_links : (u i : ℕ) (d : LeanNode) → u < s.nodes → i < s.ins u → slice_index (links_in (slice_index_or nodes u d).ins.items) i ≡ s.in_link u i
  pub out_links : (u j : ℕ) (d : LeanNode) → u < s.nodes → j < s.outs u → slice_index (links_out (slice_index_or nodes u d).outs.items) j ≡ s.out_link u j

-- of a link by its number: what left it and what entered it in the last slot, as the nodes at its ends have it
abbrev pub gone_at : Setting → List LeanNode → ℕ → ℕ
gone_at s nodes l = slice_index (slice_index_or (map (λ (n : LeanNode). gone_in n.ins.items) nodes) (s.head l) []) (s.in_place l)

abbrev pub came_at : Setting → List LeanNode → ℕ → ℕ
came_at s nodes l = slice_index (slice_index_or (map (λ (n : LeanNode). came_out n.outs.items) nodes) (s.tail l) []) (s.out_place l)

abbrev pub mail_at : Setting → List LeanNode → ℕ → Mail → Mail
mail_at s nodes l d = slice_index_or (slice_index_or (map (λ (n : LeanNode). mails_out n.outs.items) nodes) (s.tail l) []) (s.out_place l) d

-- what moved at all of them in a slot
abbrev pub AllMoved : Setting → Counts → Tables → ℕ → List LeanNode → Type 0
AllMoved s c x t nodes = (u : ℕ) (d : LeanNode) → u < s.nodes → MovedAtNode s c x t (slice_index_or nodes u d)

-- room for each node
abbrev pub HasRoomForAll : Setting → Tables → NodeRoom → Type 0
HasRoomForAll s x room = (u : ℕ) → u < s.nodes → HasRoomFor s x u room

-- the same node, whose links out of it have other mails as wide
pub record SameButMails (old new : LeanNode) : Type 0 where
  pub node : new.node ≡ old.node
  pub own : new.own ≡ old.own
  pub left : new.left ≡ old.left
  pub gone : new.gone.items ≡ old.gone.items
  pub kept : new.kept ≡ old.kept
  pub ins : new.ins.items ≡ old.ins.items
  pub long : length new.outs.items ≡ length old.outs.items
  pub outs : (j : ℕ) (d : Outgoing) → j < length old.outs.items → SameOutgoing (slice_index_or old.outs.items j d) (slice_index_or new.outs.items j d)
