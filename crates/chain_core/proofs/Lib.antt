mod Numbers
mod Rests
mod Putting
mod Relinked
pub mod Steps
pub mod Leafs
mod Turning
mod Replaced
mod Children
mod Exchanged
mod Finishes
pub mod Standing
pub mod Concluding
pub mod Holding
pub mod Finding
pub mod Looking
mod Accepted
mod MergeSpots
mod Onward
pub mod Beginning
pub mod Fresh
pub mod Showing
mod Ending
pub mod Places
pub mod TargetPuts
mod Copied
pub mod Phases
pub mod Stages
pub mod MergeFound
pub mod MergePhases
pub mod MergeServed
pub mod MergeTold
pub mod Spending
pub mod MergeStages
pub mod MergeAsked
pub mod MergeChild
pub mod MergeReady
pub mod MergeLayers
pub mod MergeBegun
pub mod MergeSplit
pub mod MergePlanned
pub mod MergeRelinks
pub mod Links
pub mod LeafTargets
pub mod LeafPuts
pub mod LeafPhases
pub mod LeafServed
pub mod LeafStages
pub mod LeafBegun
pub mod LeafPlanned
pub mod Succeeding
pub mod Retires
pub mod RetireStays
pub mod RetireLeaf
pub mod Noting
pub mod Called
pub mod Stopped
pub mod Later
pub mod SealedTraces
pub mod SealedServing
pub mod SealedReady
pub mod SealedSteps
pub mod SealedReaders
pub mod OfSource
mod Skipped
