mod OptionWords
mod RunLemmas
mod WholeRuns
mod DoorsServed
mod Crossings
mod ServiceLemmas
