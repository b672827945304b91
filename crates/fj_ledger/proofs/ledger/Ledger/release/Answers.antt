use Rattle.std.proofs.Common.{◌+◌, ◌≡◌, ◌<◌, length, map, ap, sym, ◌∙◌, subst}
use Rattle.std.specs.Prelude.{option_map}
use Rattle.std.proofs.lemmas.List.{length-map}
use Rattle.fj_rules.specs.Pasts.{limit}
use Rattle.fj_rules.specs.declared.event.Event.TheVariants.{Rel}
use Rattle.fj_rules.specs.Bounds.{Pool}
use Rattle.fj_rules.specs.Statuses.{status}
use Rattle.fj_rules.specs.Allowed.{Allowed}
use Rattle.fj_rules.specs.Runs.{Past}
use Rattle.fj_tree.specs.declared.record.Record.{Record}
use Rattle.fj_ledger.specs.InHands.{released_with}
use Rattle.fj_ledger.proofs.Lists.HandParts.{written_back}
use Rattle.fj_ledger.proofs.Recorded.Located.{IsLocated, located, read_at}
use Rattle.fj_ledger.proofs.Recorded.Refused.{unrefused}
use Rattle.fj_ledger.proofs.Updates.Released.{released_is, releasable, release_holds}
use Rattle.fj_tree.specs.Handles.{Handle}
use Rattle.fj_ledger.proofs.ledger.Ledger.release.Goals as goal
use Rattle.fj_ledger.proofs.ledger.Ledger.release.Goals.{After-self, After-unwrap-h}

fits : (c : After-self) → length c.self.inside.log.events < length c.self.inside.log.sealed + c.self.inside.limits.events
fits c = subst (λ (p : Past). length p.events < limit p) (sym c.self.view_is) c.requires.fits

may : (c : After-self) → Allowed (record { mode = c.self.inside.mode; limits = c.self.inside.limits }) c.self.inside.log.events (Rel c.args.t.serial)
may c = subst (λ (p : Past). Allowed p.pool p.events (Rel c.args.t.serial)) (sym c.self.view_is) c.requires.may

found : (c : After-unwrap-h) → IsLocated c.self.inside.tree c.args.t.serial c.unwrap-h.result
found c = located c.self.inside.tree c.args.t.serial c.renew.result c.unwrap-h.result c.renew.ensures.found c.renew.ensures.good c.unwrap-h.ensures

pub unwrap-requires-2 : goal.unwrap-requires-2
unwrap-requires-2 c =
    let at = goal.at.unwrap-requires-2 c in
    let pool : Pool = record { mode = c.self.inside.mode; limits = c.self.inside.limits } in
    let h = c.self.inside.log.events in
    unrefused c.release.result _ c.release.ensures.refused (releasable pool h c.self.inside.tree c.args.t.serial c.unwrap-h.result (found at.After-unwrap-h) c.self.invariant.holds.tree_kept c.renew.ensures.sound (may at.After-self))

pub invariant_of-self : goal.invariant_of-self
invariant_of-self c =
    let at = goal.at.invariant_of-self c in
    let pool : Pool = record { mode = c.self.inside.mode; limits = c.self.inside.limits } in
    let h = c.self.inside.log.events in
    let t = c.args.t.serial in
    let tree = c.self.inside.tree in
    let l = found at.After-unwrap-h in
    let r = l.found in
    let is = released_is tree c.release.new.self c.release.result c.unwrap-h.result r c.unwrap-2.ensures l.at l.serial
    c.release.ensures.removed c.release.ensures.others c.release.ensures.kept c.release.ensures.made c.release.ensures.room in
    let read = read_at tree t c.unwrap-h.result l c.unwrap.result.now (rw c.unwrap.ensures at c.get.ensures) in
    let number : r.serial ≡ t = l.serial ∙ l.number in
    let told : status h t ≡ c.unwrap.result.now.status = ap (status h) (sym number) ∙ (c.self.invariant.holds.tree_kept.each c.unwrap-h.result.key r l.at).status ∙ ap (λ (x : Record). x.status) (sym read) in
    let f = option_map (released_with t c.unwrap.result.now.status) in
    let put = rw (ap (λ (x : Handle). x.serial) c.t.view_is) at c.keep_status.ensures in
    let left = put ∙ ap (map f) c.as_mut_slice.ensures.value in
    let back = written_back c.self.inside.hands.len c.keep_status.new.hands c.self.inside.hands.items (ap (λ ks. length ks) put ∙ length-map c.as_mut_slice.result.now f ∙ c.as_mut_slice.ensures.len) ∙ left in record {
      holds = rw (c.push.ensures, back, ap (λ (x : Handle). x.serial) c.t.view_is)
          (release_holds pool h t c.unwrap.result.now.status _ _ _ tree c.release.new.self _ _ c.unwrap-h.result.key r c.self.invariant.holds c.renew.ensures.sound is number (may at.After-self) (fits at.After-self) told);
      log_room = rw c.push.ensures (c.self.invariant.log_room);
      open_room = c.self.invariant.open_room;
      gone_room = c.self.invariant.gone_room;
    }
