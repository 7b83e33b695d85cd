use Rattle.std.proofs.Common.{rules, ◌<◌, ◌≡◌, ◌+◌, [], ◌∷◌, length, ap, ◌∙◌, arith}
use Rattle.std.proofs.lemmas.List.{length-append}
use Rattle.replay_gate.proofs.Ending.{commits_from}
use Rattle.replay_gate.proofs.places.commit.Goals as goal

pub fetch_add-requires : goal.fetch_add-requires
fetch_add-requires c =
    let event = c.requires.event in
    let v = c.args.place.now.me.0 in
    let long : length c.args.world.history ≡ length v.seen + 1 = ap length event.1 ∙ length-append v.seen (event.0 ∷ []) in
    let within = c.history.ensures.within in
    let limit = c.budget.ensures.limit in
    let room : length v.seen < 1048576 = omega arith in (
      search rules,
      search rules,
      commits_from _ _ _ _ v c.args.world event.0 c.put_world.ensures.full c.requires.turn.unspent c.requires.turn.turn c.requires.start c.requires.budget event.1 c.history.ensures.legal event.2 room,
    )
