pub mod ValueFrames
