pub mod Equal
pub mod Sectors
pub mod Numbers
pub mod Alike
pub mod Places
pub mod Untold
pub mod Apart
pub mod Beside
pub mod Crashes
pub mod Payload
pub mod Written
pub mod Committed
pub mod Committing
pub mod Allocating
pub mod Grown
pub mod WriteSteps
pub mod AsHeld
pub mod Standing
pub mod Planned
pub mod BlockRuns
mod CallSizes
pub mod Counting
pub mod Looked
pub mod Entries
pub mod Failing
pub mod Under
pub mod Ending
mod Closed
pub mod Pages
pub mod Entered
mod Placing
mod Turning
mod Updated
mod Updates
mod Identified
pub mod PagesTurned
pub mod Leaving
mod Chunks
pub mod SameTables
pub mod Marking
mod Marked
pub mod Dropping
mod Rooms
mod Dropped
mod Behind
mod Reused
mod Cleared
mod SameEntries
mod Told
mod Going
mod Taken
mod Setting
mod Resting
mod Made
mod Marks
mod Parting
mod Readying
mod Joining
mod WriteEnds
mod Running
mod Portions
mod Zeroing
mod Frames
mod Calling
mod Clearing
pub mod Owned
pub mod Parted
pub mod RunsRead
pub mod Readable
pub mod Tests
pub mod ReadOnly
pub mod FileLayers
mod Masking
mod Spots
mod Emptied
mod Spotting
pub mod Beginning
pub mod BitRuns
pub mod Brought
pub mod BroughtServed
pub mod Leading
pub mod Says
pub mod Fitted
pub mod Making
pub mod Tally
pub mod Wanting
pub mod Finished
pub mod AtHand
pub mod CallPrepared
pub mod BothChunks
pub mod Choices
pub mod EntryBrought
mod Exits
pub mod Handing
pub mod Known
pub mod Whereabout
pub mod Finding
mod Absences
