mod Cases
pub mod Outside
pub mod Chains
pub mod PageChains
pub mod EditChains
pub mod Contents
pub mod Sections
pub mod Answering
pub mod GroupFaultLaws
pub mod NoGroups
pub mod StepsApart
pub mod Bodies
pub mod GroupBorders
