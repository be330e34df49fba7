-- A session serves what it served once a file that it only reads was sealed.
use Rattle.std.proofs.Common.{◌≢◌, ℕ, Bool, List, [], ◌∷◌, refl, sym, ap, subst, ◌∙◌, arith}
use Rattle.std.specs.Prelude.{⊤, Option, Some, None, IfSome}
use Rattle.std.specs.List.{AllByRecursion}
use Rattle.store_model.specs.File.{Seal, is_synced}
use Rattle.store_model.specs.Trace.{Trace, moment, with_change}
use Rattle.store_model.proofs.Spans.{EachMoment-next, at_moment-now}
use Rattle.guest_model.specs.Calls.{Disk}
use Rattle.guest_model.specs.History.{History}
use Rattle.chain_model.specs.Images.{Placed}
use Rattle.chain_model.specs.Members.{Way}
use Rattle.chain_model.specs.Moments.{EachOpensToPrefix, OpensToPrefix}
use Rattle.chain_model.specs.Sessions.{IsKept}
use Rattle.layer_session.specs.Calls.{own_file}
use Rattle.layer_session.specs.Keeping.{HoldsLayer}
use Rattle.layer_session.specs.FileLayers.{HasFile, HaveFiles}
use Rattle.layer_session.specs.declared.file.Layer.{Layer}
use Rattle.layer_session.specs.declared.file_layer.FileLayer.{FileLayer}
use Rattle.layer_session.specs.declared.file_layer.FileLayer.TheVariants.{Read, Session}
use Rattle.layer_session.proofs.FileLayers.{file_layers_stand}
use Rattle.chain_core.specs.States.{AreHeld, IsServing, LeavesOthers, State, WasSynced, files_of, others_of}
use Rattle.chain_core.specs.declared.layers.Layers.{Layers}
use Rattle.chain_core.proofs.SealedTraces.{beside_still, clean_before, image_before, sealed_at, seen_still, synced_still, untorn_before}

-- ---- which files a layer has

-- a layer's file is another, or only read
abbrev pub IsApartFrom : ℕ → FileLayer → Type 0
IsApartFrom n (Session l) = own_file l ≢ n
IsApartFrom n (Read l) = ⊤

-- so it is with each layer of a session
pub record IsReadBy (layers : Layers) (n : ℕ) : Type 0 where
  pub leaf : IfSome layers.leaf (λ (l : Layer). own_file l ≢ n)
  pub below : AllByRecursion (IsApartFrom n) layers.below.items

pub has_still : (n : ℕ) (l : FileLayer) (t : Trace) (file : Placed) → IsApartFrom n l → HasFile l t file → HasFile l (sealed_at n t) file
unfolding with_change
has_still n (Session l) t file ne s = file_layers_stand.beside (Session l) t (sealed_at n t) file s (beside_still n file.number t (λ e. ne (sym s.number ∙ e)))
has_still n (Read l) t file ne r = record {
  within = r.within;
  number = r.number;
  name = r.name;
  parts = r.parts;
  ties = r.ties;
  unchanged = r.unchanged;
  as_held = subst (λ bytes. HoldsLayer l.tables r.parts file.member.layer bytes) (sym (seen_still n file.number t)) r.as_held;
}

have_still : (n : ℕ) (layers : List FileLayer) (t : Trace) (files : List Placed) → AllByRecursion (IsApartFrom n) layers → HaveFiles layers t files → HaveFiles layers (sealed_at n t) files
have_still n [] t [] apart h = tt
have_still n [] t (file ∷ files) apart h = absurd h
have_still n (l ∷ layers) t [] apart h = absurd h
have_still n (l ∷ layers) t (file ∷ files) apart h = (has_still n l t file apart.0 h.0, have_still n layers t files apart.1 h.1)

held_still : (n : ℕ) (leaf : Option Layer) (below : List FileLayer) (t : Trace) (top : Placed) (others : List Placed) → IfSome leaf (λ (l : Layer). own_file l ≢ n) → AllByRecursion (IsApartFrom n) below
    → AreHeld leaf below t top others → AreHeld leaf below (sealed_at n t) top others
held_still n None below t top others ne apart h = (h.0, have_still n below t (top ∷ others) apart h.1)
held_still n (Some l) below t top others ne apart h = (has_still n (Session l) t top ne h.0, have_still n below t others apart h.1)

-- ---- what a crash leaves

kept_still : (n : ℕ) (t : Trace) (file : Placed) → IsKept t file → IsKept (sealed_at n t) file
unfolding with_change
kept_still n t file k = record {
  within = k.within;
  name = k.name;
  shows = λ image is untorn. k.shows image (image_before n file.number t image is) (untorn_before n file.number t image untorn);
}

all_kept : (n : ℕ) (t : Trace) (files : List Placed) → AllByRecursion (IsKept t) files → AllByRecursion (IsKept (sealed_at n t)) files
all_kept n t [] h = tt
all_kept n t (file ∷ files) h = (kept_still n t file h.0, all_kept n t files h.1)

past_still : (n z : ℕ) (opening : Disk) (h : History) (is_broken : ℕ → Bool) (leaf : Way) (began t : Trace) → EachOpensToPrefix z opening h is_broken leaf began t → EachOpensToPrefix z opening h is_broken leaf began (sealed_at n t)
past_still n z opening h is_broken leaf began t past =
    let last : OpensToPrefix z opening h is_broken leaf t = subst (OpensToPrefix z opening h is_broken leaf) (at_moment-now t) (past.each (moment t) past.later (omega arith)) in
    EachMoment-next (OpensToPrefix z opening h is_broken leaf) began t n Seal past
    (record { m = last.m; within = last.within; opens = λ image clean. last.opens image (clean_before n t image clean) })

-- ---- since now

-- what was synced then, and hasn't changed, is synced now
synced_now : (v : State) (t : Trace) (files : List Placed) → LeavesOthers v t → AllByRecursion (WasSynced v.writes v.since) files → AllByRecursion (WasSynced v.writes t) files
synced_now v t [] still h = tt
synced_now v t (file ∷ files) still h = (λ unwritten. ap is_synced (still file.number unwritten) ∙ h.0 unwritten, synced_now v t files still h.1)

synced_sealed : (writes : ℕ → Bool) (n : ℕ) (t : Trace) (files : List Placed) → AllByRecursion (WasSynced writes t) files → AllByRecursion (WasSynced writes (sealed_at n t)) files
synced_sealed writes n t [] h = tt
synced_sealed writes n t (file ∷ files) h = (λ unwritten. synced_still n file.number t ∙ h.0 unwritten, synced_sealed writes n t files h.1)

-- the files that it doesn't change are as they are now
pub serving_now : (layers : Layers) (v : State) (t : Trace) → IsServing layers v t → IsServing layers (record v { since = t }) t
serving_now layers v t s = record {
  once = s.once;
  geometry = s.geometry;
  served = s.served;
  loose = s.loose;
  course = s.course;
  leaving = s.leaving;
  drops = s.drops;
  held = s.held;
  whole = s.whole;
  synced = synced_now v t (files_of v) s.still s.synced;
  written = s.written;
  still = λ other unwritten. refl;
  past = s.past;
}

pub serving_sealed : (layers : Layers) (n : ℕ) (v : State) (t : Trace) → IsReadBy layers n → IsServing layers v t → IsServing layers (record v { since = sealed_at n t }) (sealed_at n t)
unfolding with_change
serving_sealed layers n v t read s = record {
  once = s.once;
  geometry = s.geometry;
  served = record { linked = s.served.linked; by = s.served.by; kept = all_kept n t _ s.served.kept; disk = s.served.disk };
  loose = s.loose;
  course = s.course;
  leaving = s.leaving;
  drops = s.drops;
  held = held_still n layers.leaf layers.below.items t v.top (others_of v.rest) read.leaf read.below s.held;
  whole = s.whole;
  synced = synced_sealed v.writes n t (files_of v) (synced_now v t (files_of v) s.still s.synced);
  written = s.written;
  still = λ other unwritten. refl;
  past = past_still n _ _ _ _ _ v.began t s.past;
}
