mod Beginnings
mod Passed
mod Progress
mod Ends
mod Attending
mod EachTwo
