pub mod RoomLemmas
pub mod FrameLemmas
pub mod Counting
mod OneNorm
mod ChildMoves
mod DeedMoves
mod NormMoves
pub mod NormLemmas
pub mod PartLemmas
pub mod LayerLemmas
pub mod EndLemmas
pub mod MatchLemmas
pub mod TurnedLemmas
pub mod TurnLemmas
pub mod DeedLemmas
pub mod OwnDeeds
pub mod StepLemmas
pub mod MixedLists
pub mod StageLemmas
pub mod HeadLemmas
pub mod StopLemmas
mod OneSettling
mod OneBlocker
mod MoreSplits
mod Examples
mod LeafLemmas
mod SizeLemmas
mod RisingLemmas
mod NoneSoFar
mod SpotLemmas
mod ChoiceLemmas
mod StandLemmas
mod LeafRooms
mod Gathering
mod EndedLemmas
mod TypeLemmas
