use Rattle.std.proofs.Common.{◌≡◌, ◌≢◌, ℕ, ◌<◌, length, slice_index, slice_index_or, arith, sym, ap, ◌∙◌}
use Rattle.std.proofs.lemmas.List.{get_or_default, length-map}
use Rattle.ltm_lean.specs.declared.mail.Mail.{Mail}
use Rattle.ltm_lean.specs.declared.outgoing.Outgoing.{Outgoing}
use Rattle.ltm_lean.specs.Ends.{mail_width}
use Rattle.ltm_lean_load.specs.Nodes.{links_out}
use Rattle.ltm_lean_load.proofs.Elements.{read_map}
use Rattle.ltm_lean_load.proofs.Trading.{trades_more}
use Rattle.ltm_lean_load.proofs.mails.trade_mails.Goals as goal

pub bounds-mails-link : goal.bounds-mails-link
bounds-mails-link c =
    let j : ℕ = c.loop-j.j in
    let r : Outgoing = c.index-outs-j.result in
    let there : c.loop-j.j < length c.args.outs.now = omega (arith, c.loop-j-test.true, c.loop-j.invariant.long) in
    let is : (slice_index_or c.loop-j.outs c.loop-j.j c.index-outs-j.result).link.0 ≡ slice_index (links_out c.args.outs.now) c.loop-j.j =
    ap (λ (o : Outgoing). o.link.0) (c.loop-j.invariant.later j r (omega arith)) ∙ read_map Outgoing ℕ (λ (o : Outgoing). o.link.0) c.args.outs.now j 0 r there in
    omega (arith, is, c.requires.links j there, c.loop-j.invariant.count)

pub trade-requires : goal.trade-requires
trade-requires c =
    let j : ℕ = c.loop-j.j in
    let r : Outgoing = c.index-outs-j.result in
    let read : Outgoing = c.index-outs-j-in-loop-j.result in
    let mail : Mail = c.index-mails-link.result in
    let there : c.loop-j.j < length c.args.outs.now = omega (arith, c.loop-j-test.true, c.loop-j.invariant.long) in
    let is : (slice_index_or c.loop-j.outs c.loop-j.j c.index-outs-j.result).link.0 ≡ slice_index (links_out c.args.outs.now) c.loop-j.j =
    ap (λ (o : Outgoing). o.link.0) (c.loop-j.invariant.later j r (omega arith)) ∙ read_map Outgoing ℕ (λ (o : Outgoing). o.link.0) c.args.outs.now j 0 r there in
    let new : (i : ℕ) → i < c.loop-j.j → slice_index (links_out c.args.outs.now) i ≢ (slice_index_or c.loop-j.outs c.loop-j.j c.index-outs-j.result).link.0 =
    λ i m e. c.requires.apart i j m (omega (arith, there, length-map c.args.outs.now (λ (o : Outgoing). o.link.0))) (e ∙ is) in
    ap mail_width (c.loop-j.invariant.others (slice_index_or c.loop-j.outs c.loop-j.j c.index-outs-j.result).link.0 mail new)
    ∙ (ap (λ (q : ℕ). mail_width (slice_index_or c.args.mails.now q c.index-mails-link.result)) is
    ∙ (c.requires.wide j mail there
    ∙ (sym (ap mail_width (read_map Outgoing Mail (λ (o : Outgoing). o.mail) c.args.outs.now j mail read there)) ∙ ap (λ (o : Outgoing). mail_width o.mail) (sym (c.loop-j.invariant.later j read (omega arith))))))

pub loop-j-preserved : goal.loop-j-preserved
loop-j-preserved c =
    let j : ℕ = c.loop-j.j in
    let r : Outgoing = c.index-outs-j.result in
    let read : Outgoing = c.index-outs-j-in-loop-j.result in
    let there : c.loop-j.j < length c.args.outs.now = omega (arith, c.loop-j-test.true, c.loop-j.invariant.long) in
    let inside : c.loop-j.j < length c.loop-j.outs = omega (arith, there, c.loop-j.invariant.long) in
    let is : (slice_index_or c.loop-j.outs c.loop-j.j c.index-outs-j.result).link.0 ≡ slice_index (links_out c.args.outs.now) c.loop-j.j =
    ap (λ (o : Outgoing). o.link.0) (c.loop-j.invariant.later j r (omega arith)) ∙ read_map Outgoing ℕ (λ (o : Outgoing). o.link.0) c.args.outs.now j 0 r there in
    trades_more j (slice_index_or c.loop-j.outs c.loop-j.j c.index-outs-j.result).link.0 c.args.mails.now c.loop-j.mails c.args.outs.now c.loop-j.outs (slice_index_or c.loop-j.outs c.loop-j.j c.index-outs-j-in-loop-j.result) c.trade.new.self c.trade.new.mail
    c.loop-j.invariant c.requires.apart inside (omega (arith, is, c.requires.links j there, c.loop-j.invariant.count)) is
    (get_or_default c.loop-j.outs j read (slice_index_or c.loop-j.outs c.loop-j.j c.index-outs-j-in-loop-j.result) inside) c.trade.ensures.same
    (λ d. c.trade.ensures.given ∙ (ap (λ (o : Outgoing). o.mail) (c.loop-j.invariant.later j read (omega arith)) ∙ read_map Outgoing Mail (λ (o : Outgoing). o.mail) c.args.outs.now j d read there))
    (length-map c.args.outs.now (λ (o : Outgoing). o.link.0))
