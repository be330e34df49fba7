mod Hearing
mod Ends
