use Rattle.std.proofs.Common.{◌≡◌, ◌<◌, List, [], ◌∷◌, get_or, refl, sym, ap, ◌∙◌, arith, length, subst, true}
use Rattle.std.specs.List.{remove}
use Rattle.layer_session.specs.declared.file_layer.FileLayer.{FileLayer}
use Rattle.layer_session.specs.declared.file_layer.FileLayer.TheVariants.{Session}
use Rattle.chain_core.proofs.Places.{first_session, leaf_not_none}
use Rattle.chain_core.specs.Sessions.{is_session_at}
use Rattle.chain_core.proofs.layers.Layers.hand_over.Goals as goal

first_there : (items : List FileLayer) (x : FileLayer) → 0 < length items → x ≡ get_or items 0 x → items ≡ x ∷ remove items 0
first_there [] x some is = absurd (omega (arith, some))
first_there (y ∷ items) x some is = ap (λ (z : FileLayer). z ∷ items) (sym is)

pub returns-in-Some : goal.returns-in-Some
returns-in-Some g c = record {
  leaf = c.in-Some.leaf;
  target = c.in-Session.target;
  rest = c.remove.new.self.items;
  was = sym c.replace.ensures.value ∙ c.in-Some.is;
  was_there = first_there c.args.self.now.below.items (Session c.in-Session.target) c.requires.there c.in-Session.ensures.value ∙ ap (λ (rest : List FileLayer). Session c.in-Session.target ∷ rest) (sym c.in-Session.ensures.items);
  now = c.replace.ensures.after;
  left = refl;
  geometry = refl;
  merge = refl;
  retiring = refl;
  moments = c.end.ensures.moments;
  ended = c.end.ensures.ended;
  counts = c.end.ensures.counts;
  err = c.end.ensures.err;
}

pub returns-in_default : goal.returns-in_default
returns-in_default g c =
    let x = c.remove.result in
    let rest = c.remove.new.self.items in
    let is = first_there c.args.self.now.below.items x c.requires.there c.remove.ensures.value ∙ ap (λ (more : List FileLayer). x ∷ more) (sym c.remove.ensures.items) in
    absurd (first_session x rest (subst (λ (b : List FileLayer). is_session_at b 0 ≡ true) is c.requires.target) c.in_default.not-Session)

pub returns-in-None : goal.returns-in-None
returns-in-None g c = absurd (leaf_not_none c.args.self.now (sym c.replace.ensures.value ∙ c.in-None.is) c.requires.session)
