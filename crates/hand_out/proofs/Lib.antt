pub mod HandLaws
