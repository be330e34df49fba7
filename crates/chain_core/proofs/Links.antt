-- Which files each image of a session's moment is linked by.
use Rattle.std.proofs.Common.{ℕ, List, ◌++◌, sym, subst}
use Rattle.chain_model.proofs.Serving.{all_shown}
use Rattle.store_model.specs.Trace.{Trace}
use Rattle.guest_model.specs.Calls.{Disk}
use Rattle.guest_model.specs.History.{History}
use Rattle.chain_model.specs.Images.{Placed, members_of}
use Rattle.chain_model.specs.Members.{NoneTwice, Way, names_of}
use Rattle.chain_model.specs.PhaseLaws.{IsNamedOnce}
use Rattle.chain_model.specs.Sessions.{IsServed}
use Rattle.chain_model.proofs.Showing.{images_link_alike}
use Rattle.chain_core.specs.Answering.{EachLinks}
use Rattle.chain_core.specs.Laws.{SessionsLinkAlike}
use Rattle.chain_core.specs.States.{files_of, sector_of}

pub served_links : (z : ℕ) (opening : Disk) (h : History) (leaf : Way) (retired chain : List Placed) (now : Trace) → IsNamedOnce now → IsServed z opening h leaf retired chain now → EachLinks leaf.name (names_of (members_of chain)) now
served_links z opening h leaf retired chain now once served image clean r c linked =
    (images_link_alike image leaf.name retired chain r c (subst NoneTwice (sym clean.left.names) once) (all_shown now image (retired ++ chain) clean served.kept) served.linked linked).1

pub sessions_link_alike : SessionsLinkAlike
sessions_link_alike layers v trace s = served_links (sector_of v) v.opening v.history v.leaf v.retired (files_of v) trace s.once s.served
