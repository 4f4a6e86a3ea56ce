use Rattle.std.proofs.Common.{rules, ◌≡◌, ◌++◌, drop, length, fold, List, [], ◌∷◌, refl, sym, ap, subst, ◌∙◌}
use Rattle.crossbeam_utils.specs.Register.{TurnsAt}
use Rattle.left_right.specs.Sides.{view}
use Rattle.ltm_board.specs.declared.panel.Posting.{Posting}
use Rattle.ltm_board.specs.Rule.{Keeps, Looked}
use Rattle.ltm_board.proofs.Posts.{Shown, shown_of, applied, after_append, next_of, IsNext}
use Rattle.ltm_board.proofs.Rules.{shows}
use Rattle.ltm_board.proofs.posting.post_on.Goals as goal

pub publish_as-requires : goal.publish_as-requires
publish_as-requires g c next is =
    let old = c.args.writer in
    let op : Posting = record { keeps = c.len.result; batches = c.args.batches; count = c.args.count; sheet = c.args.sheet } in
    let ops : List Posting = drop old.behind old.log.items in
    let desk = c.append.ensures.desk in
    let keeps : op.keeps ≡ length old.desk.shown.value.posts.items = search rules in
    let there : IsNext old.desk.shown.value op = next_of old.desk.shown.value op op.batches.items op.count op.sheet keeps refl refl refl c.requires.sheet c.requires.count in
    let pending : drop c.append.new.self.behind c.append.new.self.log.items ≡ ops ++ op ∷ [] = c.in-Ok.ensures.pending in
    let is' : ◌≡◌ {A = Shown} (shown_of next) (fold applied (shown_of old.desk.shown.value) (ops ++ op ∷ [])) =
    is ∙ (λ i. fold applied (shown_of (desk i).shown.value) (pending i)) in
    subst (λ d. TurnsAt Keeps d.place.id (view d.place) d.shown.value next Looked) (sym desk)
    (shows old.desk.place.id (view old.desk.place) old.desk.shown.value next ops op c.requires.keeps there is')

pub returns-in-Ok-clause-right : goal.returns-in-Ok-clause-right
returns-in-Ok-clause-right g c =
    let old = c.args.writer in
    let op : Posting = record { keeps = c.len.result; batches = c.args.batches; count = c.args.count; sheet = c.args.sheet } in
    let ops : List Posting = drop old.behind old.log.items in
    let x = old.desk.shown.value in
    let r = c.publish_as.result in
    let keeps : op.keeps ≡ length x.posts.items = search rules in
    let there : IsNext x op = next_of x op op.batches.items op.count op.sheet keeps refl refl refl c.requires.sheet c.requires.count in
    let k = after_append r.1 x c.append.new.self.desk.shown.value r.0.desk.shown.value ops (drop c.append.new.self.behind c.append.new.self.log.items) (drop r.0.behind r.0.log.items) op
    (ap (λ d. d.shown.value) c.append.ensures.desk) c.in-Ok.ensures.pending c.requires.right c.requires.keeps there c.publish_as.ensures.values in
    k.right

pub returns-in-Ok-clause-keeps : goal.returns-in-Ok-clause-keeps
returns-in-Ok-clause-keeps g c =
    let old = c.args.writer in
    let op : Posting = record { keeps = c.len.result; batches = c.args.batches; count = c.args.count; sheet = c.args.sheet } in
    let ops : List Posting = drop old.behind old.log.items in
    let x = old.desk.shown.value in
    let r = c.publish_as.result in
    let keeps : op.keeps ≡ length x.posts.items = search rules in
    let there : IsNext x op = next_of x op op.batches.items op.count op.sheet keeps refl refl refl c.requires.sheet c.requires.count in
    let k = after_append r.1 x c.append.new.self.desk.shown.value r.0.desk.shown.value ops (drop c.append.new.self.behind c.append.new.self.log.items) (drop r.0.behind r.0.log.items) op
    (ap (λ d. d.shown.value) c.append.ensures.desk) c.in-Ok.ensures.pending c.requires.right c.requires.keeps there c.publish_as.ensures.values in
    k.keeps

pub returns-in-Ok-clause-ok : goal.returns-in-Ok-clause-ok
returns-in-Ok-clause-ok g c =
    let old = c.args.writer in
    let op : Posting = record { keeps = c.len.result; batches = c.args.batches; count = c.args.count; sheet = c.args.sheet } in
    let ops : List Posting = drop old.behind old.log.items in
    let x = old.desk.shown.value in
    let r = c.publish_as.result in
    let keeps : op.keeps ≡ length x.posts.items = search rules in
    let there : IsNext x op = next_of x op op.batches.items op.count op.sheet keeps refl refl refl c.requires.sheet c.requires.count in
    let k = after_append r.1 x c.append.new.self.desk.shown.value r.0.desk.shown.value ops (drop c.append.new.self.behind c.append.new.self.log.items) (drop r.0.behind r.0.log.items) op
    (ap (λ d. d.shown.value) c.append.ensures.desk) c.in-Ok.ensures.pending c.requires.right c.requires.keeps there c.publish_as.ensures.values in
    k.ok

pub returns-in-Ok-clause-err : goal.returns-in-Ok-clause-err
returns-in-Ok-clause-err g c =
    let old = c.args.writer in
    let op : Posting = record { keeps = c.len.result; batches = c.args.batches; count = c.args.count; sheet = c.args.sheet } in
    let ops : List Posting = drop old.behind old.log.items in
    let x = old.desk.shown.value in
    let r = c.publish_as.result in
    let keeps : op.keeps ≡ length x.posts.items = search rules in
    let there : IsNext x op = next_of x op op.batches.items op.count op.sheet keeps refl refl refl c.requires.sheet c.requires.count in
    let k = after_append r.1 x c.append.new.self.desk.shown.value r.0.desk.shown.value ops (drop c.append.new.self.behind c.append.new.self.log.items) (drop r.0.behind r.0.log.items) op
    (ap (λ d. d.shown.value) c.append.ensures.desk) c.in-Ok.ensures.pending c.requires.right c.requires.keeps there c.publish_as.ensures.values in
    k.err

pub returns-in-Ok-clause-opening : goal.returns-in-Ok-clause-opening
returns-in-Ok-clause-opening g c =
    let old = c.args.writer in
    let op : Posting = record { keeps = c.len.result; batches = c.args.batches; count = c.args.count; sheet = c.args.sheet } in
    let ops : List Posting = drop old.behind old.log.items in
    let x = old.desk.shown.value in
    let r = c.publish_as.result in
    let keeps : op.keeps ≡ length x.posts.items = search rules in
    let there : IsNext x op = next_of x op op.batches.items op.count op.sheet keeps refl refl refl c.requires.sheet c.requires.count in
    let k = after_append r.1 x c.append.new.self.desk.shown.value r.0.desk.shown.value ops (drop c.append.new.self.behind c.append.new.self.log.items) (drop r.0.behind r.0.log.items) op
    (ap (λ d. d.shown.value) c.append.ensures.desk) c.in-Ok.ensures.pending c.requires.right c.requires.keeps there c.publish_as.ensures.values in
    k.opening

pub returns-in-Ok-clause-links : goal.returns-in-Ok-clause-links
returns-in-Ok-clause-links g c =
    let old = c.args.writer in
    let op : Posting = record { keeps = c.len.result; batches = c.args.batches; count = c.args.count; sheet = c.args.sheet } in
    let ops : List Posting = drop old.behind old.log.items in
    let x = old.desk.shown.value in
    let r = c.publish_as.result in
    let keeps : op.keeps ≡ length x.posts.items = search rules in
    let there : IsNext x op = next_of x op op.batches.items op.count op.sheet keeps refl refl refl c.requires.sheet c.requires.count in
    let k = after_append r.1 x c.append.new.self.desk.shown.value r.0.desk.shown.value ops (drop c.append.new.self.behind c.append.new.self.log.items) (drop r.0.behind r.0.log.items) op
    (ap (λ d. d.shown.value) c.append.ensures.desk) c.in-Ok.ensures.pending c.requires.right c.requires.keeps there c.publish_as.ensures.values in
    k.links c.edits_make.ensures
